-- What a test of an image comes to.
use Rattle.std.specs.Prelude.{ℕ, ◌≡◌, List}
use Rattle.std.specs.List.{concat}
use Rattle.bytecode.specs.Image.{Image}
use Rattle.trace_player.specs.declared.player.PlayFault.{PlayFault}
use Rattle.trace_player.specs.declared.player.PlayFault.TheVariants as play_fault
use Rattle.trace_player.specs.Trace.{End, Good, NoInputs, NoObject, Trace, lines_of}
use Rattle.controller_tests.specs.declared.outcome.Outcome.{Outcome}
use Rattle.controller_tests.specs.declared.outcome.Outcome.TheVariants as outcome
use Rattle.controller_tests.specs.declared.difference.Difference.{Difference}
use Rattle.controller_tests.specs.Difference.{AreSameLines, IsFirstDifference}

-- by an image the lines of these ticks make this trace, which ends so
pub record MakesTrace (image : Image) (ticks trace : List ℕ) (end : End) : Type 0 where
  pub out : List (List ℕ)
  pub traced : Trace image (lines_of ticks) out end
  pub is : trace ≡ concat out

-- ---- the test

-- an image passes: the whole trace of the ticks has the lines that are wanted
pub record Passes (image : Image) (ticks wanted : List ℕ) : Type 0 where
  pub trace : List ℕ
  pub made : MakesTrace image ticks trace Good
  pub same : AreSameLines wanted trace

-- the whole trace of the ticks has other lines, of which this is the first
pub record Misses (image : Image) (ticks wanted : List ℕ) (d : Difference) : Type 0 where
  pub trace : List ℕ
  pub made : MakesTrace image ticks trace Good
  pub differs : IsFirstDifference wanted trace d

-- the trace of the ticks ends so
abbrev pub EndsSo : Image → List ℕ → End → Type 0
EndsSo image ticks end = (trace : List ℕ) × MakesTrace image ticks trace end

-- a line of the ticks ends the trace, for this fault
abbrev pub Stops : Image → List ℕ → PlayFault → Type 0
Stops image ticks (play_fault.Input line) = EndsSo image ticks (NoInputs line)
Stops image ticks (play_fault.NotJson line) = EndsSo image ticks (NoObject line)
Stops image ticks other = ⊥

-- what a test comes to
abbrev pub IsOutcome : Image → List ℕ → List ℕ → Outcome → Type 0
IsOutcome image ticks wanted outcome.Passed = Passes image ticks wanted
IsOutcome image ticks wanted (outcome.Differs d) = Misses image ticks wanted d
IsOutcome image ticks wanted (outcome.Stops fault) = Stops image ticks fault

-- ---- the trace alone

-- why there is no whole trace of the ticks: memory was refused, or a line of them ends it
abbrev pub LacksTrace : Image → List ℕ → PlayFault → Type 0
LacksTrace image ticks play_fault.Memory = Unit {0}
LacksTrace image ticks fault = Stops image ticks fault
