use Rattle.std.proofs.Common.{◌≡◌, ◌++◌, take}
use Rattle.std.specs.List.{flat_map, AllByRecursion}
use Rattle.bytecode.specs.Codes.{operation_bytes}
use Rattle.bytecode.specs.Fits.{SayableOperation}
use Rattle.bytecode.proofs.writing.codes.put_operations.Given as goal

abbrev pub invariant-loop-operation : goal.invariant-loop-operation
invariant-loop-operation l = record {
  written : l.out.items ≡ l.fn.out.items ++ flat_map operation_bytes (take l.operation-index l.operations);
  fits : AllByRecursion (SayableOperation 2) (take l.operation-index l.operations);
}
