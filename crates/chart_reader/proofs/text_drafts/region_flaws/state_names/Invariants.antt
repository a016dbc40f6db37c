use Rattle.std.proofs.Common.{◌≡◌, ◌++◌, drop}
use Rattle.chart_reader.specs.Flaws.{state_names}
use Rattle.chart_reader.proofs.text_drafts.region_flaws.state_names.Given as goal

abbrev pub invariant-loop-state : goal.invariant-loop-state
invariant-loop-state l = l.names ++ state_names (drop l.state-index l.states) ≡ state_names l.states
