-- One line of an input, and what comes of it.
use Rattle.std.specs.Prelude.{ℕ, ◌≡◌, ◌⊎◌, Bool, true, false, Option, Some, None, List}
use Rattle.std.specs.Io.KnownBytes.{Appends, IsAtEnd}
use Rattle.trace_lines.specs.Lines.{TakesLine, IsTooLong}
use Rattle.trace_player.specs.declared.player.PlayFault.{PlayFault}
use Rattle.trace_player.specs.declared.player.PlayFault.TheVariants as play_fault
use Rattle.simulation.specs.History.{History}
use Rattle.simulation.specs.Commands.{Answers}
use Rattle.simulation.specs.Lines.{StopsAtLine}

-- of what is ahead a line was taken, and this answer to it was written
pub record AnswersNext (h next : History) (now after old new : Option (List ℕ)) : Type 0 where
  pub line : List ℕ
  pub told : List ℕ
  pub takes : TakesLine now after line
  pub answers : Answers line h next (Some told)
  pub written : Appends old new told

-- of what is ahead a line was taken that says that this is the end
pub record IsSaidToEnd (h next : History) (now after old new : Option (List ℕ)) : Type 0 where
  pub line : List ℕ
  pub takes : TakesLine now after line
  pub answers : Answers line h next None
  pub same : new ≡ old

-- nothing more is to be read: nothing is ahead; the next line says so; or it was answered, and is the last
abbrev pub Ends : History → History → Option (List ℕ) → Option (List ℕ) → Option (List ℕ) → Option (List ℕ) → Type 0
Ends h next now after old new = ((next ≡ h) × IsAtEnd now × (new ≡ old)) ⊎ IsSaidToEnd h next now after old new
    ⊎ (AnswersNext h next now after old new × IsAtEnd after)

-- one line was answered, behind which more is to be read, or not
abbrev pub TurnsTo : Bool → History → History → Option (List ℕ) → Option (List ℕ) → Option (List ℕ) → Option (List ℕ) → Type 0
TurnsTo true h next now after old new = AnswersNext h next now after old new
TurnsTo false h next now after old new = Ends h next now after old new

-- why it was not: of a line that is too long it is told which one it is, and nothing was written
abbrev pub IsUnanswered : ℕ → Option (List ℕ) → Option (List ℕ) → Option (List ℕ) → PlayFault → Type 0
IsUnanswered number now old new (play_fault.NotJson line) = (line ≡ number) × IsTooLong now × (new ≡ old)
IsUnanswered number now old new (play_fault.Input line) = ⊥
IsUnanswered number now old new other = Unit {0}

-- what lines leave that are not all answered
abbrev pub Leaves : History → Option (List ℕ) → Option (List ℕ) → Option (List ℕ) → PlayFault → Type 0
Leaves h input old new (play_fault.NotJson line) = StopsAtLine h input old new line
Leaves h input old new (play_fault.Input line) = ⊥
Leaves h input old new other = Unit {0}
