use Rattle.std.proofs.Common.{◌≡◌, ◌+◌, ◌*◌, ◌-◌, drop}
use Rattle.chart_warnings.specs.Warnings.{told_in_order, told_regions, told_states}
use Rattle.chart_warnings.proofs.telling.Told.+told.Given as goal

abbrev pub invariant-tell_regions-loop-region : goal.invariant-tell_regions-loop-region
invariant-tell_regions-loop-region l =
    told_in_order (told_regions l.variables (l.levels - 1)) l.variables (drop l.region-index l.regions) l.self ≡
    told_in_order (told_regions l.variables (l.levels - 1)) l.variables l.regions l.fn.self

abbrev pub invariant-tell_states-loop-place : goal.invariant-tell_states-loop-place
invariant-tell_states-loop-place l =
    told_states (told_regions l.variables l.levels) l.variables l.states l.place (drop l.place l.states) l.self ≡
    told_states (told_regions l.variables l.levels) l.variables l.states 0 l.states l.fn.self

abbrev pub decreases-tell_regions : goal.decreases-tell_regions
decreases-tell_regions l = 3 * l.levels

abbrev pub decreases-tell_state : goal.decreases-tell_state
decreases-tell_state l = 3 * l.levels + 1

abbrev pub decreases-tell_states : goal.decreases-tell_states
decreases-tell_states l = 3 * l.levels + 2
