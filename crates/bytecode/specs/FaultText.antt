-- What is printed of bytes that are no image: the number of the fault, and where a bad field begins.
use Rattle.std.specs.Prelude.{ℕ, List, ◌++◌, codes}
use Rattle.std.specs.Fmt.{decimal}
use Rattle.bytecode.specs.declared.fault.DecodeFault.{DecodeFault}
use Rattle.bytecode.specs.declared.fault.DecodeFault.TheVariants as fault

abbrev pub fault_text : DecodeFault → List ℕ
fault_text fault.Short = codes "E21"
fault_text fault.Magic = codes "E22"
fault_text fault.Version = codes "E23"
fault_text fault.Trailing = codes "E24"
fault_text (fault.Field offset) = codes "E25 at " ++ decimal offset
fault_text fault.Memory = codes "E52"
