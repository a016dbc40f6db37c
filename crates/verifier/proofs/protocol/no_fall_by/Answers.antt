use Rattle.program_edges.proofs.Standing.{all_fall}
use Rattle.verifier.proofs.protocol.no_fall_by.Goals as goal

pub returns-in-None : goal.returns-in-None
returns-in-None c =
    all_fall c.args.program.now c.args.tables.now.priorities c.args.firsts.now c.args.least.now c.args.seconds.now c.args.greatest.now c.requires.least
    c.requires.greatest c.in-None.ensures
