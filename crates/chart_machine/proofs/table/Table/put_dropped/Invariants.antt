use Rattle.std.proofs.Common.{◌≡◌, ◌++◌, map, drop}
use Rattle.chart_machine.specs.declared.standing.Standing.TheVariants as at
use Rattle.chart_machine.specs.Steps.{to}
use Rattle.chart_machine.proofs.table.Table.put_dropped.Given as goal

abbrev pub invariant-loop-region : goal.invariant-loop-region
invariant-loop-region l =
    l.moves ++ map (λ r. to r at.Outside) (drop l.region-index l.region-items) ≡
    l.initial.moves ++ map (λ r. to r at.Outside) l.region-items
