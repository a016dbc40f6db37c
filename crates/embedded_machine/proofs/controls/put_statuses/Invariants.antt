use Rattle.std.proofs.Common.{◌≡◌, length, map, take}
use Rattle.embedded_machine.specs.Cells.{status_cell}
use Rattle.embedded_machine.proofs.controls.put_statuses.Given as goal

abbrev pub invariant-loop-at : goal.invariant-loop-at
invariant-loop-at l = record {
  long : length l.cells ≡ length l.statuses;
  same : take l.at l.cells ≡ map status_cell (take l.at l.statuses);
}
