use Rattle.std.proofs.Common.{◌≡◌, ◌≤◌, length}
use Rattle.least_or_cycle.specs.Inside.Ranking.{AreRanks, zeros}
use Rattle.least_or_cycle.proofs.ranking.rank_along.Given as goal

abbrev pub invariant-loop-node : goal.invariant-loop-node
invariant-loop-node g l = record {
  long : length l.ranks ≡ length l.initial.ranks;
  ranks : AreRanks (g.G.Graph.leads l.graph) l.target l.ranks;
  fewer : zeros l.ranks ≤ zeros l.initial.ranks;
}
