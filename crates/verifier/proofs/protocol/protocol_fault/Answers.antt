use Rattle.std.proofs.lemmas.Grind.{elements}
use Rattle.std.proofs.Common.{arith, below_more}
use Rattle.program_edges.specs.AlongVariables.{FallsOn}
use Rattle.verifier.proofs.Ordering.{falls_kept}
use Rattle.verifier.proofs.Standing.{stand_over}
use Rattle.verifier.proofs.protocol.protocol_fault.Goals as goal

pub no_fall_over-requires-clause-extremes : goal.no_fall_over-requires-clause-extremes
no_fall_over-requires-clause-extremes c =
    let lt = c.loop-x-test.true in
    let count = c.variable_count-x-end.ensures in
    stand_over c.args.program.now c.args.tables.now c.args.known.now.users c.args.known.now.extremes c.loop-x.x c.of-inits.result.now c.of-updates.result.now
    c.of-reads.result.now
    c.requires.known.extremes (omega (arith, lt, count)) c.of-inits.ensures c.of-updates.ensures c.of-reads.ensures

pub loop-x-preserved : goal.loop-x-preserved
loop-x-preserved c = below_more (FallsOn c.args.program.now c.args.tables.now.priorities) _ c.loop-x.invariant c.in_default.ensures

pub returns : goal.returns
returns c = falls_kept c.args.program.now c.args.tables.now c.requires.formed (λ x h. c.loop-x.invariant x (omega (arith, h)))

pub no_fall_over-requires-clause-inits : goal.no_fall_over-requires-clause-inits
no_fall_over-requires-clause-inits c = grind (arith, elements) steps 2000000

pub no_fall_over-requires-clause-reads : goal.no_fall_over-requires-clause-reads
no_fall_over-requires-clause-reads c = grind (arith, elements) steps 2000000
