use Rattle.std.proofs.Common.{◌≡◌, ◌++◌, map, drop}
use Rattle.drawing.specs.declared.symbols.Symbol.TheVariants as symbol
use Rattle.drawing.proofs.extended.symbols.before_symbols.Given as goal

abbrev pub invariant-loop-variable : goal.invariant-loop-variable
invariant-loop-variable l = l.symbols ++ map symbol.Before (drop l.variable-index l.befores) ≡ map symbol.Before l.befores
