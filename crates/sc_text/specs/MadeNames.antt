-- Names that are made beside those of a text: a word with a number behind it.
use Rattle.std.specs.Prelude.{ℕ, List, ◌++◌, decimal}

abbrev pub numbered : (word : List ℕ) → ℕ → List ℕ
numbered word n = word ++ decimal n
