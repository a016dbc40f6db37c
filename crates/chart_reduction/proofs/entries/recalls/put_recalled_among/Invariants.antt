use Rattle.std.proofs.Common.{◌≡◌, ◌++◌, map, drop}
use Rattle.chart_reduction.specs.Histories.{recalled_among, past_state}
use Rattle.chart_reduction.proofs.entries.recalls.put_recalled_among.Given as goal

abbrev pub invariant-loop-state : goal.invariant-loop-state
invariant-loop-state l =
    l.made ++ recalled_among l.count (map past_state (drop l.state-index l.states)) ≡ l.fn.made ++ recalled_among l.count (map past_state l.states)
