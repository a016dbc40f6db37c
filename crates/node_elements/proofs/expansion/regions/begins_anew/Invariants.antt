use Rattle.std.proofs.Common.{◌≡◌, ◌&&◌, map, drop}
use Rattle.std.specs.List.{list_any}
use Rattle.node_elements.specs.ExpansionOrigins.{piece_of_state}
use Rattle.node_elements.proofs.expansion.regions.begins_anew.Given as goal

abbrev pub invariant-loop-state : goal.invariant-loop-state
invariant-loop-state l =
    list_any (λ s. s.is_initial && s.is_final) (map piece_of_state (drop l.state-index l.states)) ≡
    list_any (λ s. s.is_initial && s.is_final) (map piece_of_state l.states)
