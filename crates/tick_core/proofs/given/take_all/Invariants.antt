use Rattle.std.proofs.Common.{◌≡◌, ◌<◌, ℕ, List, Some, slice_get, take}
use Rattle.sc_values.specs.declared.value.Value.{Value}
use Rattle.tick_core.specs.Inside.Inputs.{IsAcceptedAt}
use Rattle.tick_core.specs.Space.Given.{Gives}
use Rattle.tick_core.proofs.given.take_all.Given as goal

abbrev pub invariant-loop-at : goal.invariant-loop-at
invariant-loop-at l = record {
  gives : Gives l.program.variables (take l.at l.inputs) l.values.items;
  accepted : (i : ℕ) (a : List ℕ × Value) → i < l.at → slice_get l.inputs i ≡ Some a → IsAcceptedAt l.program.variables l.inputs i a;
}
