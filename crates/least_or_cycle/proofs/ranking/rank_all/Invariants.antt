use Rattle.std.proofs.Common.{◌≡◌, ◌<◌, ℕ, length, true, false, slice_index}
use Rattle.least_or_cycle.specs.Inside.Ranking.{AreRanks, zeros}
use Rattle.least_or_cycle.proofs.ranking.rank_all.Given as goal

abbrev pub invariant-loop-node : goal.invariant-loop-node
invariant-loop-node g l = record {
  long : length l.ranks ≡ length l.initial.ranks;
  ranks : AreRanks (g.G.Graph.leads l.graph) l.target l.ranks;
  fewer : l.more ≡ true → zeros l.ranks < zeros l.initial.ranks;
  same : l.more ≡ false → l.ranks ≡ l.initial.ranks;
  complete : l.more ≡ false → (m n w : ℕ) → m < l.node → g.G.Graph.leads l.graph m n w → 0 < slice_index l.initial.ranks n → 0 < slice_index l.initial.ranks m;
}
