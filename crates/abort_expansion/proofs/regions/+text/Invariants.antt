use Rattle.std.proofs.Common.{◌≡◌, map, drop}
use Rattle.abort_expansion.specs.Pieces.{beside, together, expanded_regions}
use Rattle.abort_expansion.specs.Expansion.{piece_of_region, piece_of_state, expanded_states}
use Rattle.abort_expansion.proofs.regions.+text.Given as goal

abbrev pub invariant-put_regions-loop-region : goal.invariant-put_regions-loop-region
invariant-put_regions-loop-region l =
    together l.made (expanded_regions (map piece_of_region (drop l.region-index l.regions)) l.around l.counter l.here) ≡
    together l.fn.made (expanded_regions (map piece_of_region l.regions) l.around l.counter l.fn.at)

abbrev pub invariant-put_states-loop-state : goal.invariant-put_states-loop-state
invariant-put_states-loop-state l =
    beside l.made (expanded_states l.anew (map piece_of_state (drop l.state-index l.states)) l.around l.to l.place l.here) ≡
    beside l.fn.made (expanded_states l.anew (map piece_of_state l.states) l.around l.to l.fn.first l.fn.at)
