use Rattle.std.proofs.Common.{◌≡◌, ◌++◌, map, drop}
use Rattle.core_charts.specs.Elements.{row}
use Rattle.node_sources.specs.EffectRows.{of_region, of_state}
use Rattle.node_sources.proofs.extended.text_places.effect_rows.+draft.Given as goal

abbrev pub invariant-put_regions-loop-region : goal.invariant-put_regions-loop-region
invariant-put_regions-loop-region l =
    l.counts ++ row (map of_region (drop l.region-index l.regions)) ≡ l.fn.counts ++ row (map of_region l.regions)

abbrev pub invariant-put_states-loop-state : goal.invariant-put_states-loop-state
invariant-put_states-loop-state l =
    l.counts ++ row (map of_state (drop l.state-index l.states)) ≡ l.fn.counts ++ row (map of_state l.states)
