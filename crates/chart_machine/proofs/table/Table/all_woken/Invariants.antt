use Rattle.std.proofs.Common.{◌≡◌, ◌++◌, map, drop}
use Rattle.chart_machine.specs.Machine.{woken}
use Rattle.chart_machine.proofs.table.Table.all_woken.Given as goal

abbrev pub invariant-loop-standing : goal.invariant-loop-standing
invariant-loop-standing l = l.started ++ map (woken l.self) (drop l.standing-index l.regions) ≡ map (woken l.self) l.regions
