-- Cells of columns.
use Rattle.std.specs.Prelude.{ℕ, zero, suc, ◌-◌, List, [], ◌∷◌, ◌++◌, length}
use Rattle.std.specs.Fmt.{decimal}

abbrev pub spaces : ℕ → List ℕ
spaces zero = []
spaces (suc n) = 32 ∷ spaces n

-- a text with spaces behind it, or before it, up to a width; a longer one stays as it is
abbrev pub left_cell : ℕ → List ℕ → List ℕ
left_cell width text = text ++ spaces (width - length text)

abbrev pub right_cell : ℕ → List ℕ → List ℕ
right_cell width text = spaces (width - length text) ++ text

abbrev pub number_cell : ℕ → ℕ → List ℕ
number_cell width n = right_cell width (decimal n)
