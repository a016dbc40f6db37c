use Rattle.std.proofs.Common.{◌≡◌, ◌+◌, ◌*◌, drop}
use Rattle.sc_text.specs.Told.{told_behind}
use Rattle.chart_reader.specs.Flaws.{state_flaws, region_flaws, nested_flaws}
use Rattle.chart_reader.proofs.text_drafts.region_flaws.+flaws.Given as goal

abbrev pub decreases-region_flaws : goal.decreases-region_flaws
decreases-region_flaws l = 4 * l.levels

abbrev pub decreases-each_region_flaws : goal.decreases-each_region_flaws
decreases-each_region_flaws l = 4 * l.levels + 3

abbrev pub decreases-state_flaws : goal.decreases-state_flaws
decreases-state_flaws l = 4 * l.levels + 2

abbrev pub decreases-each_state_flaws : goal.decreases-each_state_flaws
decreases-each_state_flaws l = 4 * l.levels + 1

abbrev pub invariant-each_region_flaws-loop-at : goal.invariant-each_region_flaws-loop-at
invariant-each_region_flaws-loop-at l =
    told_behind l.found (region_flaws l.scope.variables.now (nested_flaws l.scope.variables.now l.levels) l.names.names l.at (drop l.at l.regions))
    ≡ told_behind l.fn.found (region_flaws l.scope.variables.now (nested_flaws l.scope.variables.now l.levels) l.names.names 0 l.regions)

abbrev pub invariant-each_state_flaws-loop-at : goal.invariant-each_state_flaws-loop-at
invariant-each_state_flaws-loop-at l =
    told_behind l.found (state_flaws l.scope.variables.now (nested_flaws l.scope.variables.now l.levels) l.names.names l.at (drop l.at l.states))
    ≡ told_behind l.fn.found (state_flaws l.scope.variables.now (nested_flaws l.scope.variables.now l.levels) l.names.names 0 l.states)
