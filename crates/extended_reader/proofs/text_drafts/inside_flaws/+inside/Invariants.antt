use Rattle.std.proofs.Common.{◌≡◌, map, drop}
use Rattle.sc_text.specs.Told.{told_behind}
use Rattle.extended_reader.specs.Flaws.{joined, region_inside_flaws, state_inside_flaws}
use Rattle.extended_reader.proofs.text_drafts.inside_flaws.+inside.Given as goal

abbrev pub invariant-regions_inside_flaws-loop-region : goal.invariant-regions_inside_flaws-loop-region
invariant-regions_inside_flaws-loop-region l =
    told_behind l.found (joined (map (region_inside_flaws l.signals.variables.now) (drop l.region-index l.regions)))
    ≡ told_behind l.fn.found (joined (map (region_inside_flaws l.signals.variables.now) l.regions))

abbrev pub invariant-states_inside_flaws-loop-state : goal.invariant-states_inside_flaws-loop-state
invariant-states_inside_flaws-loop-state l =
    told_behind l.found (joined (map (state_inside_flaws l.signals.variables.now) (drop l.state-index l.states)))
    ≡ told_behind l.fn.found (joined (map (state_inside_flaws l.signals.variables.now) l.states))
