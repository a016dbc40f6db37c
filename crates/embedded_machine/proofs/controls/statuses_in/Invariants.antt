use Rattle.std.proofs.Common.{◌≡◌, ◌++◌, Some, drop, map, take}
use Rattle.std.specs.Option.{is_some}
use Rattle.std.specs.List.{list_all}
use Rattle.embedded_machine.specs.Cells.{status_cell, status_in}
use Rattle.embedded_machine.proofs.controls.statuses_in.Given as goal

abbrev pub invariant-loop-at : goal.invariant-loop-at
invariant-loop-at l = record {
  cells : map status_cell l.statuses ≡ take l.at l.cells;
  read : map (λ s. Some s) l.statuses ++ map status_in (drop l.at l.cells) ≡ map status_in l.cells;
  rest : list_all is_some (map status_in (drop l.at l.cells)) ≡ list_all is_some (map status_in l.cells);
}
