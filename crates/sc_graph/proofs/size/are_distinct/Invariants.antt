use Rattle.sc_graph.proofs.Distinct.{DistinctBelow}
use Rattle.sc_graph.proofs.size.are_distinct.Given as goal

abbrev pub invariant-loop-i : goal.invariant-loop-i
invariant-loop-i l = DistinctBelow l.threads l.i
