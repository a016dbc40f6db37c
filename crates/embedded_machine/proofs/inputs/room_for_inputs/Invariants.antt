use Rattle.std.proofs.Common.{◌≡◌, ◌+◌, drop, length}
use Rattle.embedded_machine.specs.Inside.{count_inputs}
use Rattle.embedded_machine.proofs.inputs.room_for_inputs.Given as goal

abbrev pub invariant-loop-variable : goal.invariant-loop-variable
invariant-loop-variable l = length l.inputs + count_inputs (drop l.variable-index l.variables) ≡ count_inputs l.variables
