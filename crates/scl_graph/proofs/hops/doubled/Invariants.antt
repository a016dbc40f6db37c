use Rattle.std.proofs.Common.{◌≡◌, ◌++◌, drop, map}
use Rattle.scl_graph.specs.Inside.Settling.{further}
use Rattle.scl_graph.proofs.hops.doubled.Given as goal

abbrev pub invariant-loop-hop : goal.invariant-loop-hop
invariant-loop-hop l = l.next.items ++ map (further l.table) (drop l.hop-index l.table) ≡ map (further l.table) l.table
