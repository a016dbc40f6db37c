use Rattle.std.proofs.Common.{◌≡◌, ◌+◌, ◌++◌, drop, length, take}
use Rattle.embedded_machine.specs.Cells.{inputs_in}
use Rattle.embedded_machine.specs.Inside.{count_inputs}
use Rattle.embedded_machine.specs.Refusals.{give_inputs}
use Rattle.embedded_machine.proofs.inputs.give_all.Given as goal

abbrev pub invariant-loop-at : goal.invariant-loop-at
invariant-loop-at l = record {
  places : length l.inputs ≡ length l.fn.inputs;
  count : l.given + count_inputs (drop l.at l.variables) ≡ length l.inputs;
  inputs : take l.given l.inputs ++ inputs_in (drop l.at l.variables) (drop l.at l.cells) ≡ inputs_in l.variables l.cells;
  given : give_inputs (drop l.at l.variables) (drop l.at l.cells) ≡ give_inputs l.variables l.cells;
}
