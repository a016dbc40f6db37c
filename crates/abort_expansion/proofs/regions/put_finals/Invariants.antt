use Rattle.std.proofs.Common.{◌≡◌, ◌++◌, map, drop}
use Rattle.abort_expansion.specs.Expansion.{piece_of_state}
use Rattle.abort_expansion.proofs.regions.put_finals.Given as goal

abbrev pub invariant-loop-state : goal.invariant-loop-state
invariant-loop-state l =
    l.made ++ map (λ s. s.is_final) (map piece_of_state (drop l.state-index l.states)) ≡
    l.fn.made ++ map (λ s. s.is_final) (map piece_of_state l.states)
