use Rattle.std.proofs.Common.{ℕ, ◌<◌}
use Rattle.sc_graph.specs.declared.place.Place.TheVariants as place
use Rattle.sc_graph.specs.Size.{ProgramFitsAt}
use Rattle.sc_graph.proofs.program.Program.unfit_variable.Given as goal

abbrev pub invariant-loop-variable : goal.invariant-loop-variable
invariant-loop-variable l = (x : ℕ) → x < l.variable → ProgramFitsAt l.self (place.Variable x)
