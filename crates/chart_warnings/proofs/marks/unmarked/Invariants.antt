use Rattle.std.proofs.Common.{◌≡◌, false, replicate}
use Rattle.chart_warnings.proofs.marks.unmarked.Given as goal

abbrev pub invariant-loop-number : goal.invariant-loop-number
invariant-loop-number l = l.marks.items ≡ replicate l._number false
