-- Which tests the words of a request name.
use Rattle.std.specs.Prelude.{ℕ, ◌≡◌, Option, Some, None, List, [], ◌∷◌, ◌++◌}
use Rattle.command_files.specs.Files.{Contents, Lists}
use Rattle.controller_tests.specs.Names.{tests_in}

-- the tests in a folder of these names; a word that leads to no folder is itself the name of a test
abbrev pub named_by : List ℕ → Option (List (List ℕ)) → List (List ℕ)
named_by word (Some names) = tests_in word names
named_by word None = word ∷ []

-- words name these tests, one word after the other
abbrev pub AreNamed : Option Contents → List (List ℕ) → List (List ℕ) → Type 0
AreNamed files [] tests = tests ≡ []
AreNamed files (word ∷ words) tests =
    (names : Option (List (List ℕ))) × (others : List (List ℕ))
    × Lists files word names × AreNamed files words others × (tests ≡ named_by word names ++ others)
