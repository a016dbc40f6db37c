-- The numbers in the codes of warnings, as `W03`.
use Rattle.std.specs.Prelude.{ℕ}
use Rattle.chart_warnings.specs.declared.warning.Warning.{Warning}
use Rattle.chart_warnings.specs.declared.warning.Warning.TheVariants as warning

abbrev pub code : Warning → ℕ
code (warning.StaysOn state transition output) = 1
code (warning.Forestalled state transition) = 2
code (warning.Unreached state) = 3
code (warning.NeverRead x) = 4
code (warning.NeverSet x) = 5
code (warning.NeverAsked x) = 6
code (warning.NeverEnded state transition region) = 7
code (warning.NeverLeft state) = 8
