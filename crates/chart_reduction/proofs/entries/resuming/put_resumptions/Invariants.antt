use Rattle.std.proofs.Common.{◌≡◌, ◌++◌, map, drop}
use Rattle.chart_reduction.specs.Histories.{resumptions, past_state}
use Rattle.chart_reduction.proofs.entries.resuming.put_resumptions.Given as goal

abbrev pub invariant-loop-state : goal.invariant-loop-state
invariant-loop-state l =
    l.made ++ resumptions l.past l.place (map past_state (drop l.state-index l.states)) ≡ l.fn.made ++ resumptions l.past 0 (map past_state l.states)
