use Rattle.std.proofs.Common.{◌≡◌, ◌++◌, map, drop}
use Rattle.node_elements.specs.ExpansionOrigins.{piece_of_state}
use Rattle.node_elements.proofs.expansion.regions.ends_of.Given as goal

abbrev pub invariant-loop-state : goal.invariant-loop-state
invariant-loop-state l =
    l.finals ++ map (λ s. s.is_final) (map piece_of_state (drop l.state-index l.states)) ≡ map (λ s. s.is_final) (map piece_of_state l.states)
