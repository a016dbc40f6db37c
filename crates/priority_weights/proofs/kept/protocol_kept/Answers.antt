use Rattle.std.proofs.lemmas.Grind.{elements}
use Rattle.std.proofs.Common.{arith, below_more}
use Rattle.program_edges.specs.AlongVariables.{FallsOn}
use Rattle.program_edges.proofs.AlongVariables.{falls_along}
use Rattle.priority_weights.proofs.kept.protocol_kept.Goals as goal

pub loop-x-preserved : goal.loop-x-preserved
loop-x-preserved c = below_more (FallsOn c.args.program.now c.args.table.now) _ c.loop-x.invariant (c.in_ok-kept.ensures c.if-not-kept.false)

pub returns : goal.returns
returns c =
    let end = c.loop-x-test.false in
    let count = c.variable_count-x-end.ensures in
    λ yes. falls_along c.args.program.now c.args.table.now c.requires.formed (λ x h. c.loop-x.invariant x (omega (arith, h, end, count)))

pub kept_over-requires-clause-reads : goal.kept_over-requires-clause-reads
kept_over-requires-clause-reads c = grind (arith, elements) steps 2000000

pub kept_over-requires-clause-inits : goal.kept_over-requires-clause-inits
kept_over-requires-clause-inits c = grind (arith, elements) steps 2000000

pub kept_over-requires-clause-updates : goal.kept_over-requires-clause-updates
kept_over-requires-clause-updates c = grind (arith, elements) steps 2000000
