use Rattle.std.proofs.Common.{◌≡◌, ℕ, ◌<◌, List, Some, slice_get}
use Rattle.sc_values.specs.declared.value.Value.{Value}
use Rattle.tick_core.specs.Inside.Inputs.{IsAcceptedAt}
use Rattle.tick_core.proofs.inputs.are_accepted.Given as goal

abbrev pub invariant-loop-at : goal.invariant-loop-at
invariant-loop-at l =
    (i : ℕ) (a : List ℕ × Value) → i < l.at → slice_get l.inputs i ≡ Some a → IsAcceptedAt l.program.variables l.inputs i a
