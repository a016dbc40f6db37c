-- Numbers in a row, and what holds of no item of a list.
use Rattle.std.proofs.Common.{◌≡◌, ℕ, zero, suc, ◌+◌, ◌<◌, Bool, false, Option, Some, List, [], ◌∷◌, ◌++◌, map, slice_get, refl, ap, ◌∙◌, arith}
use Rattle.std.proofs.lemmas.Bool.{or_parts}
use Rattle.sc_text.proofs.EachItem.{Each}
use Rattle.core_charts.specs.Aborts.{some_of}

-- numbers in a row, from this one on
abbrev pub numbers_from : ℕ → ℕ → List (Option ℕ)
numbers_from n zero = []
numbers_from n (suc count) = Some n ∷ numbers_from (suc n) count

pub more_numbers : (n m a b : ℕ) → m ≡ n + a → numbers_from n a ++ numbers_from m b ≡ numbers_from n (a + b)
more_numbers n m zero b is =
    let same : m ≡ n = omega (arith, is) in
    let count : b ≡ 0 + b = omega arith in
    ap (λ k. numbers_from k b) same ∙ ap (numbers_from n) count
more_numbers n m (suc a) b is =
    let same : m ≡ suc n + a = omega (arith, is) in
    let count : suc (a + b) ≡ suc a + b = omega arith in
    ap (λ xs. Some n ∷ xs) (more_numbers (suc n) m a b same) ∙ ap (numbers_from n) count

pub number_at : (count n s : ℕ) → s < count → slice_get (numbers_from n count) s ≡ Some (Some (n + s))
number_at zero n s less = absurd (omega (arith, less))
number_at (suc count) n zero less = let same : n ≡ n + 0 = omega arith in ap (λ m. Some (Some m)) same
number_at (suc count) n (suc s) less =
    let same : suc n + s ≡ n + suc s = omega arith in
    number_at count (suc n) s (omega (arith, less)) ∙ ap (λ m. Some (Some m)) same

pub none_among : {A : Type 0} (f : A → Bool) (xs : List A) → some_of (map f xs) ≡ false → Each (λ x. f x ≡ false) xs
none_among f [] h = tt
none_among f (x ∷ xs) h = let both : (f x ≡ false) × (some_of (map f xs) ≡ false) = or_parts (f x) (some_of (map f xs)) h in (both.0, none_among f xs both.1)

pub map_same : {A : Type 0} (f : A → A) (xs : List A) → Each (λ x. f x ≡ x) xs → map f xs ≡ xs
map_same f [] h = refl
map_same f (x ∷ xs) h = ap (λ y. y ∷ map f xs) h.0 ∙ ap (λ ys. x ∷ ys) (map_same f xs h.1)
