-- How a reader's fault is printed.
use Rattle.std.specs.Prelude.{ℕ, List, ◌++◌, codes}
use Rattle.std.specs.Fmt.{decimal}
use Rattle.sc_text.specs.declared.read_fault.FaultKind.{FaultKind}
use Rattle.sc_text.specs.declared.read_fault.FaultKind.TheVariants as broken
use Rattle.sc_text.specs.declared.read_fault.ReadFault.{ReadFault}
use Rattle.sc_text.specs.declared.read_fault.ReadFault.TheVariants as fault

abbrev pub broken_number : FaultKind → ℕ
broken_number broken.Token = 1
broken_number broken.Grammar = 2
broken_number broken.Unknown = 3
broken_number broken.Repeated = 4
broken_number broken.Kind = 5
broken_number broken.Rule = 6
broken_number broken.Limit = 7

abbrev pub fault_text : ReadFault → List ℕ
fault_text (fault.Text b at) = codes "E0" ++ (decimal (broken_number b) ++ (codes " at " ++ decimal at))
fault_text fault.Memory = codes "E52"
