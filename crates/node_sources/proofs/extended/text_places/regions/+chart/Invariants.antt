use Rattle.std.proofs.Common.{◌≡◌, map, drop, length}
use Rattle.node_sources.specs.Origins.{all_regions, all_states, of_region, of_state}
use Rattle.node_sources.proofs.extended.text_places.regions.+chart.Given as goal

abbrev pub invariant-put_regions-loop-region : goal.invariant-put_regions-loop-region
invariant-put_regions-loop-region l =
    all_regions (map (of_region l.author) (drop l.region-index l.regions)) l.around l.origins ≡
    all_regions (map (of_region l.author) l.regions) l.around l.fn.origins

abbrev pub invariant-put_states-loop-place : goal.invariant-put_states-loop-place
invariant-put_states-loop-place l =
    all_states (length l.states) l.place (map (of_state l.author) (drop l.place l.states)) l.around l.origins ≡
    all_states (length l.states) 0 (map (of_state l.author) l.states) l.around l.fn.origins
