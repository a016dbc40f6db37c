-- How often streams and files failed.
use Rattle.std.specs.Prelude.{ℕ}
use Rattle.command_files.specs.Counting as files
use Rattle.trace_player.specs.declared.player.PlayFault.TheVariants as play_fault
use Rattle.sct_command.specs.declared.fault.Fault.{Fault}
use Rattle.sct_command.specs.declared.fault.Fault.TheVariants as fault

-- how often the input failed, the output, and files, where this is the fault
abbrev pub reads_failed : Fault → ℕ
reads_failed (fault.Play play_fault.Read cause) = 1
reads_failed other = 0

abbrev pub writes_failed : Fault → ℕ
writes_failed (fault.Play play_fault.Write cause) = 1
writes_failed fault.Write = 1
writes_failed other = 0

abbrev pub files_failed : Fault → ℕ
files_failed (fault.Files f) = files.files_failed f
files_failed other = 0
