use Rattle.std.proofs.Common.{◌≡◌, length, map, take}
use Rattle.embedded_machine.specs.Cells.{value_cell}
use Rattle.embedded_machine.proofs.controls.put_values.Given as goal

abbrev pub invariant-loop-at : goal.invariant-loop-at
invariant-loop-at l = record {
  long : length l.cells ≡ length l.values;
  same : take l.at l.cells ≡ map value_cell (take l.at l.values);
}
