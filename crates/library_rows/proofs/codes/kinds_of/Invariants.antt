use Rattle.std.proofs.Common.{◌≡◌, ◌++◌, map, drop}
use Rattle.sc_values.specs.Operator.{kind_of}
use Rattle.library_rows.proofs.codes.kinds_of.Given as goal

abbrev pub invariant-loop-value : goal.invariant-loop-value
invariant-loop-value l =
    l.kinds.items ++ map kind_of (drop l.value-index l.variables) ≡ map kind_of l.variables
