-- What is printed of a fault: its number, and the line that it speaks of.
use Rattle.std.specs.Prelude.{ℕ, List, ◌++◌, codes}
use Rattle.std.specs.Fmt.{decimal}
use Rattle.trace_player.specs.declared.player.PlayFault.{PlayFault}
use Rattle.trace_player.specs.declared.player.PlayFault.TheVariants as play_fault

-- a line is named by its number, from 1
abbrev pub play_fault_text : PlayFault → List ℕ
play_fault_text (play_fault.Input line) = codes "E51 line " ++ decimal line
play_fault_text play_fault.Memory = codes "E52"
play_fault_text play_fault.Read = codes "E61"
play_fault_text (play_fault.NotJson line) = codes "E62 line " ++ decimal line
play_fault_text play_fault.Write = codes "E63"
