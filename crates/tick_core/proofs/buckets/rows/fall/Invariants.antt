use Rattle.std.proofs.Common.{◌≡◌, ◌<◌, ◌≤◌, ℕ, slice_index}
use Rattle.tick_core.proofs.buckets.rows.fall.Given as goal

abbrev pub invariant-loop-class : goal.invariant-loop-class
invariant-loop-class l = record {
  at_most : l.class ≤ l.top;
  bare : (other : ℕ) → l.class < other → other ≤ l.top → slice_index l.counts other ≡ 0;
}

abbrev pub decreases-loop-class : goal.decreases-loop-class
decreases-loop-class l = l.class
