-- How often files failed: once for each name of which no file could be read or written.
use Rattle.std.specs.Prelude.{ℕ}
use Rattle.command_files.specs.declared.fault.LoadFault.{LoadFault}
use Rattle.command_files.specs.declared.fault.LoadFault.TheVariants as fault
use Rattle.command_files.specs.declared.files.FileFault.{FileFault}
use Rattle.command_files.specs.declared.files.FileFault.TheVariants as file_fault

-- one for a name, and none where memory was refused
abbrev pub named_failures : FileFault → ℕ
named_failures file_fault.Named = 1
named_failures file_fault.Memory = 0

-- how often files failed, where this is the fault
abbrev pub files_failed : LoadFault → ℕ
files_failed (fault.File shown) = 1
files_failed other = 0
