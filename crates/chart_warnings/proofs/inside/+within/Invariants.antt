use Rattle.std.proofs.Common.{◌≡◌, map, drop}
use Rattle.chart_warnings.specs.Names.{joined, within_region, within_state}
use Rattle.chart_warnings.specs.Inside.Marks.{all_by, marked}
use Rattle.chart_warnings.proofs.inside.+within.Given as goal

abbrev pub invariant-mark_regions-loop-region : goal.invariant-mark_regions-loop-region
invariant-mark_regions-loop-region l =
    marked (all_by l.way (joined (map within_region (drop l.region-index l.regions)))) l.marks.items ≡
    marked (all_by l.way (joined (map within_region l.regions))) l.fn.marks.items

abbrev pub invariant-mark_states-loop-state : goal.invariant-mark_states-loop-state
invariant-mark_states-loop-state l =
    marked (all_by l.way (joined (map within_state (drop l.state-index l.states)))) l.marks.items ≡
    marked (all_by l.way (joined (map within_state l.states))) l.fn.marks.items
