use Rattle.std.proofs.Common.{◌≡◌, map, drop}
use Rattle.chart_reduction.specs.Histories.{initial_among, past_state}
use Rattle.chart_reduction.proofs.entries.resuming.initial_among.Given as goal

abbrev pub invariant-loop-state : goal.invariant-loop-state
invariant-loop-state l =
    initial_among l.place (map past_state (drop l.state-index l.states)) ≡ initial_among 0 (map past_state l.states)
