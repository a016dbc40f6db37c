use Rattle.std.proofs.Common.{◌≡◌, Some, length}
use Rattle.sc_values.specs.Runs.{replay}
use Rattle.chart_machine.specs.InOrder.{StepsInOrder}
use Rattle.chart_machine.specs.Machine.{machine}
use Rattle.chart_machine.proofs.table.Table.run.Given as goal

abbrev pub invariant-loop : goal.invariant-loop
invariant-loop l = record {
  replays : replay (machine l.self) l.run.items l.start ≡ Some l.c;
  steps : StepsInOrder l.self l.order l.run.items l.start l.c;
  long : length l.run.items ≡ l.counter;
}
