-- What is told where a line could not be had.
use Rattle.std.specs.Prelude.{ℕ}
use Rattle.trace_lines.specs.declared.lines.LinesFault.{LinesFault}
use Rattle.trace_lines.specs.declared.lines.LinesFault.TheVariants as lines_fault
use Rattle.trace_player.specs.declared.player.PlayFault.{PlayFault}
use Rattle.trace_player.specs.declared.player.PlayFault.TheVariants as play_fault

-- the fault where line number k could not be had
abbrev pub unread : LinesFault → ℕ → PlayFault
unread lines_fault.Memory k = play_fault.Memory
unread lines_fault.Read k = play_fault.Read
unread lines_fault.TooLong k = play_fault.NotJson k
