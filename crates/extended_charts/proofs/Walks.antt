-- What holds of all that is made of the items of a list, and of what they count in all.
use Rattle.std.proofs.Common.{◌≡◌, ℕ, ◌+◌, List, [], ◌∷◌, ◌++◌, map, refl, arith}
use Rattle.std.specs.Prelude.{sum_by}
use Rattle.std.proofs.lemmas.List.Sums.{sum_by-cons}
use Rattle.sc_text.proofs.EachItem.{Each}
use Rattle.extended_charts.specs.Walks.{walk}

-- what is made of them all is related to the list, where what is made of each one is so before what is made of the others
pub walked : {X A B : Type 0} (R : List X → List B → Type 0) (P : X → Type 0) (of : X → A) (count : A → ℕ) (make : A → ℕ → List B) →
    R [] [] → ((x : X) (n : ℕ) (xs : List X) (made : List B) → P x → R xs made → R (x ∷ xs) (make (of x) n ++ made)) →
    (xs : List X) → Each P xs → (n : ℕ) → R xs (walk count make n (map of xs))
walked R P of count make none more [] h n = none
walked R P of count make none more (x ∷ xs) h n =
    more x n xs (walk count make (n + count (of x)) (map of xs)) h.0 (walked R P of count make none more xs h.1 (n + count (of x)))

-- where no item counts anything, all of them count nothing
pub none_counted : {X A : Type 0} (of : X → A) (count : A → ℕ) (xs : List X) → Each (λ x. count (of x) ≡ 0) xs → sum_by count (map of xs) ≡ 0
none_counted of count [] h = refl
none_counted of count (x ∷ xs) h = omega (arith, sum_by-cons count (of x) (map of xs), h.0, none_counted of count xs h.1)
