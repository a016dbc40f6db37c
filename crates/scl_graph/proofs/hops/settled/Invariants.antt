use Rattle.std.proofs.Common.{◌-◌}
use Rattle.scl_graph.proofs.Circling.{IsAfter}
use Rattle.scl_graph.proofs.hops.settled.Given as goal

abbrev pub invariant-loop-gotos : goal.invariant-loop-gotos
invariant-loop-gotos l = IsAfter l.fn.hops.items l.table.items l.gotos

abbrev pub decreases-loop-gotos : goal.decreases-loop-gotos
decreases-loop-gotos l = l.count - l.gotos
