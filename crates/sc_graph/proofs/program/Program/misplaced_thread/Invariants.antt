use Rattle.std.proofs.Common.{ℕ, ◌<◌}
use Rattle.sc_graph.specs.declared.place.Place.TheVariants as place
use Rattle.sc_graph.specs.Structure.{StructureAt}
use Rattle.sc_graph.proofs.program.Program.misplaced_thread.Given as goal

abbrev pub invariant-loop-thread : goal.invariant-loop-thread
invariant-loop-thread l = (x : ℕ) → x < l.thread → StructureAt l.self (place.Thread x)
