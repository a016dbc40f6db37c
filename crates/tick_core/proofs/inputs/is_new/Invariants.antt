use Rattle.std.proofs.Common.{◌≡◌, ◌≢◌, ℕ, ◌<◌, List, Some, slice_get}
use Rattle.sc_values.specs.declared.value.Value.{Value}
use Rattle.tick_core.proofs.inputs.is_new.Given as goal

abbrev pub invariant-loop-other : goal.invariant-loop-other
invariant-loop-other l = (i : ℕ) (a : List ℕ × Value) → i < l.other-index → slice_get l.earlier i ≡ Some a → a.0 ≢ l.input.0
