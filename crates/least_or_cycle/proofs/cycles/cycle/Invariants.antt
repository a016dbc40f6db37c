use Rattle.least_or_cycle.specs.Inside.Ranking.{AreCuts}
use Rattle.least_or_cycle.proofs.cycles.cycle.Given as goal

abbrev pub invariant-loop-node-2 : goal.invariant-loop-node-2
invariant-loop-node-2 g l = AreCuts (g.G.Graph.leads l.graph) l.count l.node
