use Rattle.std.proofs.Common.{◌≡◌, ◌<◌, ℕ, Some, None, slice_get}
use Rattle.tick_core.proofs.given.give_nothing.Given as goal

abbrev pub invariant-loop-value : goal.invariant-loop-value
invariant-loop-value l = (x : ℕ) → x < l.value-index → slice_get l.value-items x ≡ Some None
