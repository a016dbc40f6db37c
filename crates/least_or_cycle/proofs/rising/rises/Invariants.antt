use Rattle.std.proofs.Common.{◌≡◌, ◌*◌, ◌-◌, length, sum}
use Rattle.least_or_cycle.specs.Inside.Rising.{IsUnder}
use Rattle.least_or_cycle.proofs.rising.rises.Given as goal

abbrev pub invariant-loop-count : goal.invariant-loop-count
invariant-loop-count g l = record {
  long : length l.table ≡ l.count;
  under : IsUnder (g.R.NumberRule.keeps l.rule) l.top l.table;
}

abbrev pub decreases-loop-count : goal.decreases-loop-count
decreases-loop-count g l = l.count * l.top - sum l.table
