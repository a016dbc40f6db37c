-- What is printed of a fault: its number, and that a limit is passed.
use Rattle.std.specs.Prelude.{ℕ, List, codes}
use Rattle.abort_expansion.specs.declared.fault.ExpandFault.{ExpandFault}
use Rattle.abort_expansion.specs.declared.fault.ExpandFault.TheVariants as fault

abbrev pub fault_text : ExpandFault → List ℕ
fault_text fault.Limit = codes "E07 limit"
fault_text fault.Memory = codes "E52"
