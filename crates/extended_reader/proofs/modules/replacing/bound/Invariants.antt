use Rattle.std.proofs.Common.{◌≡◌, ◌++◌, drop}
use Rattle.extended_reader.specs.Uses.{bound}
use Rattle.extended_reader.proofs.modules.replacing.bound.Given as goal

abbrev pub invariant-loop-parameter : goal.invariant-loop-parameter
invariant-loop-parameter l = l.table ++ bound (drop l.parameter-index l.parameters) l.left ≡ bound l.parameters l.arguments
