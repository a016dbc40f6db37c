use Rattle.std.proofs.Common.{◌≡◌, not, drop}
use Rattle.std.specs.List.{list_all}
use Rattle.chart_machine.specs.Turns.{has_work, standing_of}
use Rattle.chart_machine.proofs.table.Table.are_done.Given as goal

abbrev pub invariant-loop-region : goal.invariant-loop-region
invariant-loop-region l =
    list_all (λ r. not (has_work l.self l.c (standing_of l.c r))) (drop l.region-index l.regions) ≡
    list_all (λ r. not (has_work l.self l.c (standing_of l.c r))) l.regions
