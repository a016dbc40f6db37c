use Rattle.std.proofs.Common.{◌≡◌, ℕ, ◌<◌, Some, slice_get}
use Rattle.sc_values.specs.declared.value.Value.{Value}
use Rattle.sc_values.specs.Operator.{kind_of}
use Rattle.sc_graph.specs.Program.{kind_at}
use Rattle.sc_graph.proofs.resting.have_kinds.Given as goal

abbrev pub invariant-loop-x : goal.invariant-loop-x
invariant-loop-x l = (x : ℕ) (v : Value) → x < l.x → slice_get l.values x ≡ Some v → kind_at l.program x ≡ Some (kind_of v)
