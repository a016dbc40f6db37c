use Rattle.std.proofs.Common.{◌≡◌, ◌++◌, take}
use Rattle.std.specs.List.{flat_map, AllByRecursion}
use Rattle.bytecode.specs.Fields.{variable_bytes}
use Rattle.bytecode.specs.Fits.{SayableVariable}
use Rattle.bytecode.proofs.writing.image.put_variables.Given as goal

abbrev pub invariant-loop-variable : goal.invariant-loop-variable
invariant-loop-variable l = record {
  written : l.out.items ≡ l.fn.out.items ++ flat_map variable_bytes (take l.variable-index l.variables);
  fits : AllByRecursion SayableVariable (take l.variable-index l.variables);
}
