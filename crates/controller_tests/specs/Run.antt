-- Tests, one after the other.
use Rattle.std.specs.Prelude.{ℕ, ◌≡◌, ◌+◌, ◌⊎◌, Bool, codes, Option, List, [], ◌∷◌, ◌++◌}
use Rattle.std.specs.Fmt.{decimal}
use Rattle.command_files.specs.Files.{Contents}
use Rattle.controller_tests.specs.Naming.{AreNamed}
use Rattle.controller_tests.specs.Verdict.{ComesTo, Failed, Passed, Verdict, Written, verdict_text}

-- tests come to these verdicts, each over the files that the one before it left
abbrev pub ComeTo : Bool → Option Contents → Option Contents → List (List ℕ) → List Verdict → Type 0
ComeTo writes old new [] [] = new ≡ old
ComeTo writes old new (name ∷ names) (verdict ∷ verdicts) =
    (next : Option Contents) × ComesTo writes old next name verdict × ComeTo writes next new names verdicts
ComeTo writes old new names verdicts = ⊥

-- how many pass, and how many fail
abbrev pub passed : List Verdict → ℕ
passed [] = 0
passed (Passed ∷ verdicts) = passed verdicts + 1
passed (Written ∷ verdicts) = passed verdicts
passed (Failed said ∷ verdicts) = passed verdicts

abbrev pub failed : List Verdict → ℕ
failed [] = 0
failed (Passed ∷ verdicts) = failed verdicts
failed (Written ∷ verdicts) = failed verdicts
failed (Failed said ∷ verdicts) = failed verdicts + 1

-- what is told of each
abbrev pub told : List (List ℕ) → List Verdict → List ℕ
told (name ∷ names) (verdict ∷ verdicts) = verdict_text name verdict ++ told names verdicts
told names verdicts = []

-- the line that counts them
abbrev pub counts_line : ℕ → ℕ → List ℕ
counts_line passed failed = decimal passed ++ (codes " passed, " ++ (decimal failed ++ codes " failed\n"))

-- the tests that these words name were tried, of which so many fail, and this text tells of them
pub record TriesTests (writes : Bool) (old new : Option Contents) (words : List (List ℕ)) (failing : ℕ) (text : List ℕ) : Type 0 where
  pub names : List (List ℕ)
  pub named : AreNamed old words names
  pub verdicts : List Verdict
  pub come : ComeTo writes old new names verdicts
  pub count : failing ≡ failed verdicts
  pub is : text ≡ told names verdicts ++ counts_line (passed verdicts) failing

-- only the first of them were
pub record TriesFirst (writes : Bool) (old new : Option Contents) (words : List (List ℕ)) : Type 0 where
  pub names : List (List ℕ)
  pub named : AreNamed old words names
  pub first : List (List ℕ)
  pub rest : List (List ℕ)
  pub cut : names ≡ first ++ rest
  pub verdicts : List Verdict
  pub come : ComeTo writes old new first verdicts

-- where memory was refused: no file changed, or the first tests were tried
abbrev pub TriesSome : Bool → Option Contents → Option Contents → List (List ℕ) → Type 0
TriesSome writes old new words = (new ≡ old) ⊎ TriesFirst writes old new words
