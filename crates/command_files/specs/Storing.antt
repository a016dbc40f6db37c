-- Why a file is not written.
use Rattle.std.specs.Prelude.{ℕ, ◌≡◌, List, string_bytes}
use Rattle.command_files.specs.declared.fault.LoadFault.{LoadFault}
use Rattle.command_files.specs.declared.fault.LoadFault.TheVariants as fault
use Rattle.command_files.specs.FaultText.{shown_name}

-- the file of this name could not be written, for this fault
abbrev pub IsNotStored : List ℕ → LoadFault → Type 0
IsNotStored name fault.Memory = Unit {0}
IsNotStored name (fault.File shown) = string_bytes shown ≡ shown_name name
IsNotStored name other = ⊥
