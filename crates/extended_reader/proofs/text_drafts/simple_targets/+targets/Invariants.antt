use Rattle.std.proofs.Common.{◌≡◌, ◌++◌, map, drop}
use Rattle.extended_reader.specs.Targets.{state_targets, places_in, simple_targets}
use Rattle.extended_reader.proofs.text_drafts.simple_targets.+targets.Given as goal

abbrev pub invariant-put_targets-loop-region : goal.invariant-put_targets-loop-region
invariant-put_targets-loop-region l = l.found ++ simple_targets (drop l.region-index l.regions) ≡ l.fn.found ++ simple_targets l.regions

abbrev pub invariant-put_states-loop-state : goal.invariant-put_states-loop-state
invariant-put_states-loop-state l =
    l.found ++ places_in l.simple.names (map state_targets (drop l.state-index l.states))
    ≡ l.fn.found ++ places_in l.simple.names (map state_targets l.states)
