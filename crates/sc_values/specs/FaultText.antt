-- What is printed of an expression without a code.
use Rattle.std.specs.Prelude.{ℕ, List, codes}
use Rattle.sc_values.specs.declared.code_fault.CodeFault.{CodeFault}
use Rattle.sc_values.specs.declared.code_fault.CodeFault.TheVariants as fault

abbrev pub fault_text : CodeFault → List ℕ
fault_text fault.Kind = codes "E05"
fault_text fault.Limit = codes "E07"
