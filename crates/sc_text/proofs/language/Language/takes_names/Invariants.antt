use Rattle.std.proofs.Common.{ℕ, ◌≡◌, ◌<◌, Some, slice_get}
use Rattle.sc_graph.specs.declared.program.Variable.{Variable}
use Rattle.sc_text.specs.Parts.{IsNameIn}
use Rattle.sc_text.proofs.language.Language.takes_names.Given as goal

abbrev pub invariant-loop-variable : goal.invariant-loop-variable
invariant-loop-variable l = (i : ℕ) (x : Variable) → i < l.variable-index → slice_get l.variables i ≡ Some x → IsNameIn l.self x.name
