use Rattle.std.proofs.Common.{◌≡◌, None, drop}
use Rattle.scl_graph.specs.Inside.Settling.{least}
use Rattle.scl_graph.proofs.hops.least_goto.Given as goal

abbrev pub invariant-loop-hop : goal.invariant-loop-hop
invariant-loop-hop l = least l.best (drop l.hop-index l.table) ≡ least None l.table
