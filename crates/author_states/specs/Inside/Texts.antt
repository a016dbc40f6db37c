-- What private functions alone say of themselves. It is proved, and no public contract rests on what it means.
use Rattle.std.specs.Prelude.{◌≡◌}
use Rattle.abort_expansion.specs.declared.fault.ExpandFault.TheVariants as expanding
use Rattle.command_files.specs.declared.fault.LoadFault.{LoadFault}
use Rattle.command_files.specs.declared.fault.LoadFault.TheVariants as fault
use Rattle.compiler.specs.declared.fault.CompileFault.TheVariants as compiling
use Rattle.extended_charts.specs.declared.extended.ExtendedChart.{ExtendedChart}
use Rattle.chart_texts.specs.ReducedText.{LacksReducedText}

-- why an extended chart has no text of a reduced one
abbrev pub IsUnreduced : ExtendedChart → LoadFault → Type 0
IsUnreduced c fault.Memory = Unit {0}
IsUnreduced c (fault.Program f) = (f ≡ compiling.Expansion expanding.Limit) × LacksReducedText c
IsUnreduced c other = ⊥
