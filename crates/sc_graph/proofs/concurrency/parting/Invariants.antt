use Rattle.std.proofs.Common.{◌+◌}
use Rattle.sc_graph.proofs.Parting.{PartAlike}
use Rattle.sc_graph.proofs.concurrency.parting.Given as goal

abbrev pub invariant-loop-left : goal.invariant-loop-left
invariant-loop-left l = PartAlike l.program l.first l.second l.left l.right

abbrev pub decreases-loop-left : goal.decreases-loop-left
decreases-loop-left l = l.left + l.right
