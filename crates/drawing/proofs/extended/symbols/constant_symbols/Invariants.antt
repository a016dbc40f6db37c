use Rattle.std.proofs.Common.{◌≡◌, ◌++◌, map, drop}
use Rattle.drawing.specs.Symbols.{constant_symbol}
use Rattle.drawing.proofs.extended.symbols.constant_symbols.Given as goal

abbrev pub invariant-loop-constant : goal.invariant-loop-constant
invariant-loop-constant l = l.symbols ++ map constant_symbol (drop l.constant-index l.constants) ≡ map constant_symbol l.constants
