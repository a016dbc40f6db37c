use Rattle.std.proofs.Common.{◌≡◌, ◌++◌, ◌+◌, ◌*◌, drop}
use Rattle.sc_text.specs.Flaws.{variable_names}
use Rattle.chart_reader.specs.Flaws.{state_names}
use Rattle.chart_reader.specs.Resolved.{regions_of, states_of}
use Rattle.chart_reader.proofs.regions.+resolving.Given as goal

abbrev pub decreases-put_regions : goal.decreases-put_regions
decreases-put_regions l = 6 * l.levels

abbrev pub decreases-put_region : goal.decreases-put_region
decreases-put_region l = 6 * l.levels + 5

abbrev pub decreases-put_states : goal.decreases-put_states
decreases-put_states l = 6 * l.levels + 4

abbrev pub decreases-put_own_states : goal.decreases-put_own_states
decreases-put_own_states l = 6 * l.levels + 3

abbrev pub decreases-put_state : goal.decreases-put_state
decreases-put_state l = 6 * l.levels + 2

abbrev pub decreases-fill_state : goal.decreases-fill_state
decreases-fill_state l = 6 * l.levels + 1

abbrev pub invariant-put_regions-loop-text : goal.invariant-put_regions-loop-text
invariant-put_regions-loop-text l =
    l.made ++ regions_of (variable_names l.scope.variables.now) (drop l.text-index l.texts)
    ≡ l.fn.made ++ regions_of (variable_names l.scope.variables.now) l.texts

abbrev pub invariant-put_own_states-loop-text : goal.invariant-put_own_states-loop-text
invariant-put_own_states-loop-text l =
    l.made ++ states_of (variable_names l.scope.variables.now) (state_names l.own.states.now) (drop l.text-index l.texts)
    ≡ l.fn.made ++ states_of (variable_names l.scope.variables.now) (state_names l.own.states.now) l.texts
