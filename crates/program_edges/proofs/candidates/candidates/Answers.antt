use Rattle.std.proofs.Common.{arith}
use Rattle.program_edges.proofs.Covered.{stand_more, stand_all}
use Rattle.program_edges.proofs.candidates.candidates.Goals as goal

pub loop-node-preserved : goal.loop-node-preserved
loop-node-preserved c =
    stand_more c.args.program.now c.args.nodes.now c.loop-node.kept.items c.keep.new.kept.items c.loop-node.node-index c.requires.alike
    (omega arith) c.loop-node.invariant c.in_ok-keep.ensures

pub returns-clause-only : goal.returns-clause-only
returns-clause-only c = c.loop-node.invariant.only

pub returns-clause-suffices : goal.returns-clause-suffices
returns-clause-suffices c =
    stand_all c.args.program.now c.args.nodes.now c.loop-node.kept.items c.loop-node.node-index c.requires.formed (omega arith) c.loop-node.invariant
