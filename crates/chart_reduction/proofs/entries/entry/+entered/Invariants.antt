use Rattle.std.proofs.Common.{◌≡◌, ◌++◌, map, drop}
use Rattle.chart_reduction.specs.Entry.{without_entry, entered, all_laid}
use Rattle.chart_reduction.proofs.entries.entry.+entered.Given as goal

abbrev pub invariant-put_regions-loop-region : goal.invariant-put_regions-loop-region
invariant-put_regions-loop-region l =
    l.made ++ map without_entry (drop l.region-index l.regions)
    ≡ l.fn.made ++ map without_entry l.regions

abbrev pub invariant-put_states-loop-state : goal.invariant-put_states-loop-state
invariant-put_states-loop-state l =
    l.made ++ all_laid l.at l.number l.place (map entered (drop l.state-index l.states))
    ≡ l.fn.made ++ all_laid l.at 0 0 (map entered l.states)
