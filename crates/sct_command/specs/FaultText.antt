-- What is printed of a fault: its number, and where it lies.
use Rattle.std.specs.Prelude.{ℕ, List, ◌++◌, codes, string_bytes}
use Rattle.command_files.specs.FaultText as files_text
use Rattle.trace_player.specs.FaultText.{play_fault_text}
use Rattle.sct_command.specs.declared.fault.Fault.{Fault}
use Rattle.sct_command.specs.declared.fault.Fault.TheVariants as fault

abbrev pub fault_text : Fault → List ℕ
fault_text (fault.Files f) = files_text.fault_text f
fault_text (fault.Play f cause) = play_fault_text f
fault_text fault.Write = codes "E63"
fault_text fault.Tests = codes "E66"
fault_text (fault.Place shown) = codes "E67 " ++ string_bytes shown
