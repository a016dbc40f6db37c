-- Numbers of names, by which names are told apart.
use Rattle.std.specs.Prelude.{ℕ, ◌+◌, ◌*◌, ◌%◌, ◌^◌, ◌<◌, List, [], ◌∷◌, length}
use Rattle.std.specs.List.{AllAdjacentBelow}

-- the number behind one more byte
abbrev pub next_number : ℕ → ℕ → ℕ
next_number n byte = ((n * 11400714819323198485) % 2 ^ 64 + byte) % 2 ^ 64

abbrev pub number_from : ℕ → List ℕ → ℕ
number_from n [] = n
number_from n (byte ∷ bytes) = number_from (next_number n byte) bytes

abbrev pub number_of : List ℕ → ℕ
number_of name = number_from 0 name

-- each number is above the one before it
pub record AreRising (numbers : List ℕ) : Type 0 where
  pub each : AllAdjacentBelow (λ x y. x < y) numbers (length numbers)
