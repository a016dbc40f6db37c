-- How often streams and files failed.
use Rattle.std.specs.Prelude.{ℕ}
use Rattle.command_files.specs.Counting as files
use Rattle.trace_player.specs.declared.player.PlayFault.TheVariants as play_fault
use Rattle.ruled_runs.specs.declared.fault.RuledFault.{RuledFault}
use Rattle.ruled_runs.specs.declared.fault.RuledFault.TheVariants as fault

-- how often the input failed, the output, and files, where this is the fault
abbrev pub reads_failed : RuledFault → ℕ
reads_failed (fault.Play play_fault.Read cause) = 1
reads_failed other = 0

abbrev pub writes_failed : RuledFault → ℕ
writes_failed (fault.Play play_fault.Write cause) = 1
writes_failed other = 0

abbrev pub files_failed : RuledFault → ℕ
files_failed (fault.Files f) = files.files_failed f
files_failed other = 0
