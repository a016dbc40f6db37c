use Rattle.std.proofs.Common.{◌≡◌, ◌++◌, map, drop}
use Rattle.chart_warnings.specs.Places.{of_regions, of_state, row}
use Rattle.chart_warnings.proofs.texts.places.+draft.Given as goal

abbrev pub invariant-put_regions-loop-region : goal.invariant-put_regions-loop-region
invariant-put_regions-loop-region l =
    l.places ++ of_regions (drop l.region-index l.regions) ≡ l.fn.places ++ of_regions l.regions

abbrev pub invariant-put_states-loop-state : goal.invariant-put_states-loop-state
invariant-put_states-loop-state l =
    l.places ++ row (map of_state (drop l.state-index l.states)) ≡ l.fn.places ++ row (map of_state l.states)
