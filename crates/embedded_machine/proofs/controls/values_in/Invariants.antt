use Rattle.std.proofs.Common.{◌≡◌, ◌++◌, Some, drop, map, take}
use Rattle.std.specs.Option.{is_some}
use Rattle.std.specs.List.{list_all}
use Rattle.embedded_machine.specs.Cells.{value_cell}
use Rattle.embedded_machine.specs.Inside.{values_read}
use Rattle.embedded_machine.proofs.controls.values_in.Given as goal

abbrev pub invariant-loop-at : goal.invariant-loop-at
invariant-loop-at l = record {
  cells : map value_cell l.values ≡ take l.at l.cells;
  read : map (λ v. Some v) l.values ++ values_read (drop l.at l.variables) (drop l.at l.cells) ≡ values_read l.variables l.cells;
  rest : list_all is_some (values_read (drop l.at l.variables) (drop l.at l.cells)) ≡ list_all is_some (values_read l.variables l.cells);
}
