use Rattle.program_edges.proofs.AlongVariables.{falls_on}
use Rattle.priority_weights.proofs.kept.kept_over.Goals as goal

pub returns : goal.returns
returns c = λ yes.
    falls_on c.args.program.now c.args.table.now c.args.x c.args.inits.now c.args.updates.now c.args.reads.now c.requires.inits c.requires.updates
    c.requires.reads
    (c.in_ok-to_updates.ensures c.if-not-to_updates.false) (c.in_ok-to_reads.ensures c.if-not-to_reads.false) (c.in_ok-further.ensures yes)
