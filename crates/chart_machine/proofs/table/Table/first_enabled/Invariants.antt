use Rattle.std.proofs.Common.{◌≡◌, drop}
use Rattle.chart_machine.specs.Turns.{first_enabled}
use Rattle.chart_machine.proofs.table.Table.first_enabled.Given as goal

abbrev pub invariant-loop-region : goal.invariant-loop-region
invariant-loop-region l = first_enabled l.self l.c (drop l.region-index l.order) ≡ first_enabled l.self l.c l.order
