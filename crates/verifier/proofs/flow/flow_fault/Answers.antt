use Rattle.std.proofs.Common.{arith, below_more}
use Rattle.verifier.specs.Inside.ByNode.{FlowsFrom}
use Rattle.verifier.proofs.Rising.{flows_from, flows_kept, rise_breaks}
use Rattle.verifier.proofs.flow.flow_fault.Goals as goal

pub returns-in-Some : goal.returns-in-Some
returns-in-Some c =
    let found = c.in-Some.ensures in
    rise_breaks c.args.program.now c.args.tables.now c.loop-m.m c.in-Some.n found.0 found.1

pub loop-m-preserved : goal.loop-m-preserved
loop-m-preserved c =
    below_more (FlowsFrom c.args.program.now c.args.tables.now) _ c.loop-m.invariant
    (flows_from c.args.program.now c.args.tables.now c.loop-m.m c.in_default.ensures)

pub returns : goal.returns
returns c = flows_kept c.args.program.now c.args.tables.now (λ m h. c.loop-m.invariant m (omega (arith, h)))
