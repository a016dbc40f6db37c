use Rattle.std.proofs.Common.{ℕ, ◌<◌}
use Rattle.sc_graph.specs.Costs.{WeightAt}
use Rattle.sc_graph.specs.declared.place.Place.TheVariants as place
use Rattle.verifier.proofs.weights.weight_fault.Given as goal

abbrev pub invariant-loop-n : goal.invariant-loop-n
invariant-loop-n l = (k : ℕ) → k < l.n → WeightAt l.program l.tables (place.Node k)
