use Rattle.std.proofs.Common.{◌≡◌, drop}
use Rattle.sc_values.specs.Runs.{replay}
use Rattle.chart_machine.specs.Machine.{machine}
use Rattle.chart_machine.proofs.table.Table.replay.Given as goal

abbrev pub invariant-loop-region : goal.invariant-loop-region
invariant-loop-region l = replay (machine l.self) (drop l.region-index l.run) l.c ≡ replay (machine l.self) l.run l.start
