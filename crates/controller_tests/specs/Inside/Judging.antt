-- What a test comes to whose program has an image and ticks.
use Rattle.std.specs.Prelude.{ℕ, ◌≡◌, ◌⊎◌, Bool, true, false, List, ◌++◌, codes, string_bytes}
use Rattle.bytecode.specs.Image.{Image}
use Rattle.command_files.specs.FaultText.{shown_name}
use Rattle.controller_tests.specs.declared.command.verdict.Verdict.{Verdict as Given}
use Rattle.controller_tests.specs.declared.command.verdict.Verdict.TheVariants as given
use Rattle.controller_tests.specs.Inside.Saying.{SaysDifference}
use Rattle.controller_tests.specs.Verdict.{Failed, Passed, Verdict, Written, ticks_name}
use Rattle.controller_tests.specs.declared.difference.Difference.{Difference}
use Rattle.controller_tests.specs.Outcome.{Misses, Passes, Stops}
use Rattle.trace_player.specs.declared.player.PlayFault.{PlayFault}
use Rattle.trace_player.specs.FaultText.{play_fault_text}

abbrev pub verdict_seen : Given → Verdict
verdict_seen given.Passed = Passed
verdict_seen given.Written = Written
verdict_seen (given.Failed said) = Failed (string_bytes said)

abbrev pub is_failed : Verdict → Bool
is_failed (Failed said) = true
is_failed verdict = false

-- the trace differs from the one that is wanted
pub record JudgesOther (name bytes : List ℕ) (image : Image) (ticks wanted said : List ℕ) : Type 0 where
  pub difference : Difference
  pub misses : Misses image ticks wanted difference
  pub says : SaysDifference name bytes image ticks difference said

-- a line of the ticks ends the trace
pub record StopsSo (name : List ℕ) (image : Image) (ticks said : List ℕ) : Type 0 where
  pub fault : PlayFault
  pub stops : Stops image ticks fault
  pub is : said ≡ shown_name (ticks_name name) ++ (codes ": " ++ (play_fault_text fault ++ codes "\n"))

-- what the comparison with the wanted trace comes to
abbrev pub Judges : List ℕ → List ℕ → Image → List ℕ → List ℕ → Verdict → Type 0
Judges name bytes image ticks wanted Passed = Passes image ticks wanted
Judges name bytes image ticks wanted Written = ⊥
Judges name bytes image ticks wanted (Failed said) = JudgesOther name bytes image ticks wanted said ⊎ StopsSo name image ticks said
