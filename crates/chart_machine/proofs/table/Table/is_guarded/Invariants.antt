use Rattle.std.proofs.Common.{◌≡◌, drop}
use Rattle.chart_machine.specs.Turns.{is_guarded}
use Rattle.chart_machine.proofs.table.Table.is_guarded.Given as goal

abbrev pub invariant-loop-state : goal.invariant-loop-state
invariant-loop-state l = is_guarded l.self l.c (drop l.state-index l.around) ≡ is_guarded l.self l.c l.around
