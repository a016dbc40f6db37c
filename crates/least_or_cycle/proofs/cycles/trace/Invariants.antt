use Rattle.std.proofs.Common.{get_or}
use Rattle.least_or_cycle.specs.Inside.Tracing.{IsTraced}
use Rattle.least_or_cycle.proofs.cycles.trace.Given as goal

abbrev pub invariant-loop-at : goal.invariant-loop-at
invariant-loop-at g l = IsTraced (g.G.Graph.leads l.graph) l.ranks l.start l.walk.items l.at

abbrev pub decreases-loop-at : goal.decreases-loop-at
decreases-loop-at g l = get_or l.ranks l.at 0
