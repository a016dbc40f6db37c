use Rattle.std.proofs.Common.{ℕ, ◌<◌}
use Rattle.sc_graph.specs.declared.place.Place.TheVariants as place
use Rattle.sc_graph.specs.Size.{ProgramFitsAt}
use Rattle.sc_graph.proofs.program.Program.unfit_thread.Given as goal

abbrev pub invariant-loop-thread : goal.invariant-loop-thread
invariant-loop-thread l = (x : ℕ) → x < l.thread → ProgramFitsAt l.self (place.Thread x)
