use Rattle.std.proofs.Common.{◌≡◌, map, drop}
use Rattle.chart_warnings.specs.Names.{entered, joined, entry_of_region, entry_of_state}
use Rattle.chart_warnings.specs.Inside.Marks.{all_by, marked}
use Rattle.chart_warnings.proofs.inside.+entry.Given as goal

abbrev pub invariant-mark_entered-loop-region : goal.invariant-mark_entered-loop-region
invariant-mark_entered-loop-region l =
    marked (all_by l.way (joined (map entry_of_region (drop l.region-index l.regions)))) l.marks.items ≡
    marked (all_by l.way (joined (map entry_of_region l.regions))) l.fn.marks.items

abbrev pub invariant-mark_initial-loop-state : goal.invariant-mark_initial-loop-state
invariant-mark_initial-loop-state l =
    marked (all_by l.way (entered (map entry_of_state (drop l.state-index l.states)))) l.marks.items ≡
    marked (all_by l.way (entered (map entry_of_state l.states))) l.fn.marks.items
