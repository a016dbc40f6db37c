use Rattle.std.proofs.Common.{◌≡◌, map, drop}
use Rattle.node_sources.specs.Places.{all, beside, of_region, of_state}
use Rattle.node_sources.proofs.chart_places.rows.+draft.Given as goal

abbrev pub invariant-put_regions-loop-region : goal.invariant-put_regions-loop-region
invariant-put_regions-loop-region l =
    beside l.rows (all (map of_region (drop l.region-index l.regions))) ≡ beside l.fn.rows (all (map of_region l.regions))

abbrev pub invariant-put_states-loop-state : goal.invariant-put_states-loop-state
invariant-put_states-loop-state l =
    beside l.rows (all (map of_state (drop l.state-index l.states))) ≡ beside l.fn.rows (all (map of_state l.states))
