-- Why ticks were not run.
use Rattle.std.specs.Prelude.{List}
use Rattle.sc_graph.specs.Program.{Program}
use Rattle.sc_graph.specs.Tick.{Inputs}
use Rattle.compiled_charts.specs.declared.running.RunFault.{RunFault}
use Rattle.compiled_charts.specs.declared.running.RunFault.TheVariants as fault
use Rattle.compiled_charts.specs.Ticks.{IsFirstRefused}

-- a refusal of memory says nothing of the ticks
abbrev pub IsRunRefused : Program → List Inputs → RunFault → Type 0
IsRunRefused p ticks (fault.Input k) = IsFirstRefused p ticks k
IsRunRefused p ticks fault.Memory = Unit {0}
