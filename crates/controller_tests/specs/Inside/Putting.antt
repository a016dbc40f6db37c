-- What is put behind others.
use Rattle.std.specs.Prelude.{ℕ, ◌≡◌, Bool, Option, List, ◌++◌}
use Rattle.command_files.specs.Files.{Contents}
use Rattle.controller_tests.specs.Naming.{AreNamed}
use Rattle.controller_tests.specs.Run.{ComeTo, failed, passed, told}
use Rattle.controller_tests.specs.Verdict.{Verdict}

-- the tests that words name
pub record PutsNamed (files : Option Contents) (words old new : List (List ℕ)) : Type 0 where
  pub named : List (List ℕ)
  pub are : AreNamed files words named
  pub put : new ≡ old ++ named

-- what is told of tests, of which so many pass and so many fail
pub record PutsTold (writes : Bool) (files files' : Option Contents) (names : List (List ℕ)) (old new : List ℕ) (passing failing : ℕ) : Type 0 where
  pub verdicts : List Verdict
  pub come : ComeTo writes files files' names verdicts
  pub passes : passing ≡ passed verdicts
  pub fails : failing ≡ failed verdicts
  pub put : new ≡ old ++ told names verdicts

-- of these tests the first ones were tried
pub record PutsFirst (writes : Bool) (files files' : Option Contents) (names : List (List ℕ)) : Type 0 where
  pub first : List (List ℕ)
  pub rest : List (List ℕ)
  pub cut : names ≡ first ++ rest
  pub verdicts : List Verdict
  pub come : ComeTo writes files files' first verdicts
