use Rattle.std.proofs.Common.{drop}
use Rattle.scl_graph.specs.Inside.Settling.{AreNodes}
use Rattle.scl_graph.proofs.hops.are_nodes.Given as goal

abbrev pub invariant-loop-hop : goal.invariant-loop-hop
invariant-loop-hop l = AreNodes (drop l.hop-index l.table) → AreNodes l.table
