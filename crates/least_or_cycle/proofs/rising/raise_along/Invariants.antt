use Rattle.std.proofs.Common.{◌≡◌, ◌≤◌, length, sum}
use Rattle.least_or_cycle.specs.Inside.Rising.{IsUnder}
use Rattle.least_or_cycle.proofs.rising.raise_along.Given as goal

abbrev pub invariant-loop-place : goal.invariant-loop-place
invariant-loop-place g l = record {
  long : length l.table ≡ length l.initial.table;
  under : IsUnder (g.R.NumberRule.keeps l.rule) l.top l.table;
  more : sum l.initial.table ≤ sum l.table;
}
