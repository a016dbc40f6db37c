use Rattle.std.proofs.Common.{◌≡◌, ◌<◌, ℕ, length, true, false, sum, slice_index}
use Rattle.least_or_cycle.specs.Inside.Rising.{IsUnder}
use Rattle.least_or_cycle.proofs.rising.raise_all.Given as goal

abbrev pub invariant-loop-place : goal.invariant-loop-place
invariant-loop-place g l = record {
  long : length l.table ≡ length l.initial.table;
  under : IsUnder (g.R.NumberRule.keeps l.rule) l.top l.table;
  more : l.raised ≡ true → sum l.initial.table < sum l.table;
  same : l.raised ≡ false → l.table ≡ l.initial.table;
  kept : l.raised ≡ false → (n : ℕ) → n < l.place → g.R.NumberRule.keeps l.rule (slice_index l.initial.table) n;
}
