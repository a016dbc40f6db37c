use Rattle.std.proofs.Common.{◌≡◌, ◌++◌, map, drop}
use Rattle.chart_reduction.specs.Entry.{entered, entrances}
use Rattle.chart_reduction.proofs.entries.entry.put_entrances.Given as goal

abbrev pub invariant-loop-state : goal.invariant-loop-state
invariant-loop-state l =
    l.made ++ entrances (map entered (drop l.state-index l.states)) l.place ≡ l.fn.made ++ entrances (map entered l.states) 0
