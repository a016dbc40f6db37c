use Rattle.std.proofs.Common.{◌≡◌, ◌++◌, ◌+◌, drop, filter, nat_eq}
use Rattle.std.specs.List.{list_any}
use Rattle.chart_machine.specs.Table.{region_at}
use Rattle.chart_machine.specs.Turns.{numbered_from, inside}
use Rattle.chart_machine.proofs.table.Table.inside.Given as goal

abbrev pub invariant-loop-at : goal.invariant-loop-at
invariant-loop-at l =
    l.found ++ filter (λ r. list_any (nat_eq l.state) (region_at l.self r).around) (numbered_from (l.at + 1) (drop l.at l.rows)) ≡
    inside l.self l.state
