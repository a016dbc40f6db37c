use Rattle.std.proofs.Common.{◌≡◌, ℕ, ◌<◌, Some, slice_get}
use Rattle.sc_graph.specs.declared.program.Variable.{Variable}
use Rattle.tick_core.specs.Inside.Inputs.{IsFor}
use Rattle.tick_core.proofs.inputs.place_among.Given as goal

abbrev pub invariant-loop-place : goal.invariant-loop-place
invariant-loop-place l = (i : ℕ) (x : Variable) → i < l.place → slice_get l.variables i ≡ Some x → ¬ IsFor x l.input
