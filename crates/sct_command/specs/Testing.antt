-- What is left where controllers are tested.
use Rattle.std.specs.Prelude.{ℕ, ◌≡◌, ◌≢◌, Bool, Option, List}
use Rattle.std.specs.Io.KnownBytes.{Appends}
use Rattle.command_files.specs.declared.fault.LoadFault.TheVariants as load
use Rattle.command_files.specs.Files.{Contents}
use Rattle.controller_tests.specs.Run.{TriesSome, TriesTests}
use Rattle.sc_values.specs.Streams.{GrowsInto}
use Rattle.sct_command.specs.declared.fault.Fault.{Fault}
use Rattle.sct_command.specs.declared.fault.Fault.TheVariants as fault

-- none of the tests that these words name fails, and this was told
pub record TestsPass (writes : Bool) (files files' : Option Contents) (words : List (List ℕ)) (old new : Option (List ℕ)) : Type 0 where
  pub text : List ℕ
  pub tries : TriesTests writes files files' words 0 text
  pub written : Appends old new text

-- some of them fail, and this was told
pub record TestsFail (writes : Bool) (files files' : Option Contents) (words : List (List ℕ)) (old new : Option (List ℕ)) : Type 0 where
  pub failing : ℕ
  pub some : failing ≢ 0
  pub text : List ℕ
  pub tries : TriesTests writes files files' words failing text
  pub written : Appends old new text

-- they were tried, and the output failed, which took a beginning of what is told
pub record TestsTold (writes : Bool) (files files' : Option Contents) (words : List (List ℕ)) (old new : Option (List ℕ)) : Type 0 where
  pub failing : ℕ
  pub text : List ℕ
  pub tries : TriesTests writes files files' words failing text
  pub in_part : GrowsInto old new text

-- what tests leave that are refused: what is told where some fail, a beginning of it where the output failed, and nothing told where
-- memory was refused
abbrev pub RefusesTests : Bool → Option Contents → Option Contents → List (List ℕ) → Option (List ℕ) → Option (List ℕ) → Fault → Type 0
RefusesTests writes files files' words old new fault.Tests = TestsFail writes files files' words old new
RefusesTests writes files files' words old new fault.Write = TestsTold writes files files' words old new
RefusesTests writes files files' words old new (fault.Files load.Memory) = TriesSome writes files files' words × (new ≡ old)
RefusesTests writes files files' words old new other = ⊥
