use Rattle.std.proofs.Common.{◌≡◌, ◌++◌, drop}
use Rattle.extended_charts.proofs.copies.put_copied_durings.Given as goal

abbrev pub invariant-loop-during : goal.invariant-loop-during
invariant-loop-during l = l.made ++ drop l.during-index l.durings ≡ l.fn.made ++ l.durings
