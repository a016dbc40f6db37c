-- What is printed of a fault: its number, and that a limit is passed.
use Rattle.std.specs.Prelude.{ℕ, List, codes}
use Rattle.chart_reduction.specs.declared.fault.ReduceFault.{ReduceFault}
use Rattle.chart_reduction.specs.declared.fault.ReduceFault.TheVariants as fault

abbrev pub fault_text : ReduceFault → List ℕ
fault_text fault.Limit = codes "E07 limit"
fault_text fault.Memory = codes "E52"
