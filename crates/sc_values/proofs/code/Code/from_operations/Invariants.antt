use Rattle.std.proofs.Common.{◌≡◌, take}
use Rattle.sc_values.proofs.code.Code.from_operations.Given as goal

abbrev pub invariant-loop-operation : goal.invariant-loop-operation
invariant-loop-operation l = l.code ≡ take l.operation-index l.operations
