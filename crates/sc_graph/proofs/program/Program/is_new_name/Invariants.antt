use Rattle.std.proofs.Common.{ℕ, ◌≡◌, ◌≢◌, ◌<◌, Some, slice_get}
use Rattle.sc_graph.specs.declared.program.Variable.{Variable}
use Rattle.sc_graph.proofs.program.Program.is_new_name.Given as goal

abbrev pub invariant-loop-earlier : goal.invariant-loop-earlier
invariant-loop-earlier l = (y : ℕ) (b : Variable) → y < l.earlier → slice_get l.self.variables y ≡ Some b → b.name ≢ l.name
