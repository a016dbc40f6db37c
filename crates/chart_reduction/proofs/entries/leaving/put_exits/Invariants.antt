use Rattle.std.proofs.Common.{◌≡◌, ◌++◌, map, drop}
use Rattle.chart_reduction.specs.Exits.{exits_of, left_state}
use Rattle.chart_reduction.proofs.entries.leaving.put_exits.Given as goal

abbrev pub invariant-loop-state : goal.invariant-loop-state
invariant-loop-state l =
    l.made ++ exits_of (map left_state (drop l.state-index l.states)) ≡ l.fn.made ++ exits_of (map left_state l.states)
