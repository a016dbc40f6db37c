use Rattle.std.proofs.Common.{◌≡◌, ℕ, ◌<◌, false}
use Rattle.chart_machine.specs.Turns.{is_enabled}
use Rattle.chart_machine.proofs.table.Table.is_over.Given as goal

abbrev pub invariant-loop-region : goal.invariant-loop-region
invariant-loop-region l = (r : ℕ) → r < l.region → is_enabled l.self l.c r ≡ false
