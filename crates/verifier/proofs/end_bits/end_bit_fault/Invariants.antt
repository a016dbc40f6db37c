use Rattle.std.proofs.Common.{ℕ, ◌<◌}
use Rattle.sc_graph.specs.Costs.{EndBitAt}
use Rattle.sc_graph.specs.declared.place.Place.TheVariants as place
use Rattle.verifier.proofs.end_bits.end_bit_fault.Given as goal

abbrev pub invariant-loop-n : goal.invariant-loop-n
invariant-loop-n l = (k : ℕ) → k < l.n → EndBitAt l.program l.tables (place.Node k)
