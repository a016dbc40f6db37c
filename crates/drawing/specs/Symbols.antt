-- What the numbers in the expressions of an extended chart name: its variables, behind these what variables were in the tick
-- before, and behind these its constants.
use Rattle.std.specs.Prelude.{List, ◌++◌, map}
use Rattle.drawing.specs.declared.symbols.Symbol.{Symbol}
use Rattle.drawing.specs.declared.symbols.Symbol.TheVariants as symbol
use Rattle.extended_charts.specs.declared.extended.Declared.{Declared}
use Rattle.extended_charts.specs.declared.extended.Constant.{Constant}
use Rattle.extended_charts.specs.declared.extended.ExtendedChart.{ExtendedChart}

abbrev pub declared_symbol : Declared → Symbol
declared_symbol d = symbol.Named d.variable.name

abbrev pub constant_symbol : Constant → Symbol
constant_symbol c = symbol.Named c.name

abbrev pub symbols_of : ExtendedChart → List Symbol
symbols_of c = (map declared_symbol c.variables ++ map symbol.Before c.befores) ++ map constant_symbol c.constants
