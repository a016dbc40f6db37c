use Rattle.std.proofs.Common.{◌≡◌, ◌++◌, drop, map}
use Rattle.scl_graph.specs.Inside.Settling.{hop_of}
use Rattle.scl_graph.proofs.places.LabelPlaces.hops.Given as goal

abbrev pub invariant-loop-label : goal.invariant-loop-label
invariant-loop-label l =
    l.hops.items ++ map (λ e. hop_of l.self.labels e.1) (drop l.label-index l.labels) ≡ map (λ e. hop_of l.self.labels e.1) l.labels
