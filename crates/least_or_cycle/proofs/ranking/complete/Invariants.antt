use Rattle.std.proofs.Common.{◌≡◌, length}
use Rattle.least_or_cycle.specs.Inside.Ranking.{AreRanks, zeros}
use Rattle.least_or_cycle.proofs.ranking.complete.Given as goal

abbrev pub invariant-loop-count : goal.invariant-loop-count
invariant-loop-count g l = record {
  long : length l.ranks ≡ l.count;
  ranks : AreRanks (g.G.Graph.leads l.graph) l.target l.ranks;
}

abbrev pub decreases-loop-count : goal.decreases-loop-count
decreases-loop-count g l = zeros l.ranks
