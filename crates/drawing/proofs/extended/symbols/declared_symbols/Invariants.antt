use Rattle.std.proofs.Common.{◌≡◌, ◌++◌, map, drop}
use Rattle.drawing.specs.Symbols.{declared_symbol}
use Rattle.drawing.proofs.extended.symbols.declared_symbols.Given as goal

abbrev pub invariant-loop-declared : goal.invariant-loop-declared
invariant-loop-declared l = l.symbols ++ map declared_symbol (drop l.declared-index l.variables) ≡ map declared_symbol l.variables
