use Rattle.std.proofs.Common.{◌≡◌, ◌<◌, ℕ, true, false, sum, slice_index, length}
use Rattle.priority_weights.specs.Inside.Bounds.{AreUnder, IsCovered}
use Rattle.priority_weights.proofs.bounds.cover_all.Given as goal

abbrev pub invariant-loop-node : goal.invariant-loop-node
invariant-loop-node l = record {
  under : AreUnder l.program (slice_index l.weights) l.bounds;
  more : l.raised ≡ true → sum l.initial.bounds < sum l.bounds;
  same : l.raised ≡ false → l.bounds ≡ l.initial.bounds;
  kept : l.raised ≡ false → (n : ℕ) → n < l.node → n < length l.program.nodes → IsCovered l.program (slice_index l.weights) (slice_index l.initial.bounds) n;
}
