-- What was met on a line that ends a run.
use Rattle.std.specs.Prelude.{ℕ, Bool, Option, Some, None, List}
use Rattle.sc_graph.specs.declared.program.Variable.{Variable}
use Rattle.trace_lines.specs.declared.causes.cause.Cause.{Cause}
use Rattle.trace_lines.specs.Missing.{IsMetUnder}
use Rattle.trace_player.specs.declared.player.PlayFault.{PlayFault}
use Rattle.trace_player.specs.declared.player.PlayFault.TheVariants as play_fault

-- the line of which a fault tells
abbrev pub line_told : PlayFault → Option ℕ
line_told (play_fault.Input line) = Some line
line_told (play_fault.NotJson line) = Some line
line_told other = None

-- a cause that is known of a fault is that of the line of which it tells
abbrev pub IsMetIn : Bool → List Variable → Option (List ℕ) → Option ℕ → Option Cause → Type 0
IsMetIn strict variables input line None = Unit {0}
IsMetIn strict variables input None (Some c) = ⊥
IsMetIn strict variables input (Some line) (Some c) = IsMetUnder strict variables input line c

abbrev pub IsMet : Bool → List Variable → Option (List ℕ) → PlayFault → Option Cause → Type 0
IsMet strict variables input f cause = IsMetIn strict variables input (line_told f) cause
