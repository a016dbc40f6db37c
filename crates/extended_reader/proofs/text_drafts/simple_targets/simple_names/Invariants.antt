use Rattle.std.proofs.Common.{◌≡◌, ◌++◌, map, drop}
use Rattle.extended_reader.specs.Targets.{state_targets, simple_names}
use Rattle.extended_reader.proofs.text_drafts.simple_targets.simple_names.Given as goal

abbrev pub invariant-loop-state : goal.invariant-loop-state
invariant-loop-state l =
    l.names ++ simple_names (map state_targets (drop l.state-index l.states)) ≡ simple_names (map state_targets l.states)
