use Rattle.std.proofs.Common.{ℕ, ◌<◌}
use Rattle.sc_graph.specs.Codes.{CodeAt}
use Rattle.sc_graph.specs.declared.place.Place.TheVariants as place
use Rattle.verifier.proofs.codes.code_fault.Given as goal

abbrev pub invariant-loop-n : goal.invariant-loop-n
invariant-loop-n l = (k : ℕ) → k < l.n → CodeAt l.program (place.Node k)
