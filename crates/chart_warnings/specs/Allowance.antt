-- Which warnings the line of a place allows.
use Rattle.std.specs.Prelude.{ℕ, ◌+◌, nat_eq, Bool, false, ◌&&◌, ◌||◌, List, [], ◌∷◌, ◌++◌, codes}
use Rattle.std.specs.List.{starts_with}
use Rattle.chart_warnings.specs.declared.warning.Warning.{Warning}
use Rattle.chart_warnings.specs.Codes.{code}
use Rattle.chart_warnings.specs.Lines.{line_of}

-- `W03`: the number as a digit, of which `0` is 48
abbrev pub code_text : Warning → List ℕ
code_text w = codes "W0" ++ (48 + code w) ∷ []

-- whether these bytes stand somewhere
abbrev pub has : (piece bytes : List ℕ) → Bool
has piece [] = false
has piece (b ∷ bytes) = starts_with nat_eq (b ∷ bytes) piece || has piece bytes

-- whether the comment stands somewhere, and this code behind it: they have no byte in common
abbrev pub allows : (code line : List ℕ) → Bool
allows code [] = false
allows code (b ∷ bytes) = (starts_with nat_eq (b ∷ bytes) (codes "// sct: allow") && has code (b ∷ bytes)) || allows code bytes

-- whether the line of this place allows the warning
abbrev pub is_allowed : (text : List ℕ) → (at : ℕ) → Warning → Bool
is_allowed text at w = allows (code_text w) (line_of text at)
