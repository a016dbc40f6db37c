-- Rows of the example: what reading tells of a few texts. 0 is a one, 1 a plus, 2 and 3 are parentheses.
use Rattle.std.proofs.Common.{◌≡◌, [], ◌∷◌, refl}
use Rattle.grammar.specs.Read.{Got, Failed, Wrong, Deep, read_all}
use Rattle.grammar.specs.Sums.{sums}

-- 1 + (1 + 1)
three : read_all (sums 0) (0 ∷ 1 ∷ 2 ∷ 0 ∷ 1 ∷ 0 ∷ 3 ∷ []) ≡ Got 3 []
three = refl

-- the text ends behind a plus
ended_early : read_all (sums 0) (0 ∷ 1 ∷ []) ≡ Failed Wrong []
ended_early = refl

-- a parenthesis that closes none
closed_twice : read_all (sums 0) (2 ∷ 0 ∷ 3 ∷ 3 ∷ 0 ∷ []) ≡ Failed Wrong (3 ∷ 0 ∷ [])
closed_twice = refl

-- the third open parenthesis, whatever stands behind it
three_open : read_all (sums 0) (2 ∷ 2 ∷ 2 ∷ 1 ∷ []) ≡ Failed Deep (2 ∷ 1 ∷ [])
three_open = refl

-- two may be open
two_open : read_all (sums 0) (2 ∷ 2 ∷ 0 ∷ 3 ∷ 3 ∷ []) ≡ Got 1 []
two_open = refl
