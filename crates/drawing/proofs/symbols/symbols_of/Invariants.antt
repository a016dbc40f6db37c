use Rattle.std.proofs.Common.{◌≡◌, ◌++◌, map, drop}
use Rattle.drawing.specs.Expressions.{symbol_of}
use Rattle.drawing.proofs.symbols.symbols_of.Given as goal

abbrev pub invariant-loop-variable : goal.invariant-loop-variable
invariant-loop-variable l = l.symbols ++ map symbol_of (drop l.variable-index l.variables) ≡ map symbol_of l.variables
