-- What holds of each item of a list, and where the items of lists one behind the other are.
use Rattle.std.proofs.Common.{◌≡◌, ℕ, zero, suc, ◌+◌, Bool, true, false, cond, Some, List, [], ◌∷◌, ◌++◌, length, slice_get, count_by, refl, arith}
use Rattle.std.proofs.lemmas.List.Recursion.{is_count_by}
use Rattle.sc_text.proofs.EachItem.{Each}

-- an item of the first list, with another behind it
pub at_front : {A : Type 0} (xs ys : List A) (i : ℕ) (x : A) → slice_get xs i ≡ Some x → slice_get (xs ++ ys) i ≡ Some x
at_front [] ys i x at = absurd cc
at_front (y ∷ xs) ys zero x at = at
at_front (y ∷ xs) ys (suc i) x at = at_front xs ys i x at

-- the first item behind a list
pub at_seam : {A : Type 0} (xs : List A) (y : A) (ys : List A) → slice_get (xs ++ y ∷ ys) (length xs) ≡ Some y
at_seam [] y ys = refl
at_seam (x ∷ xs) y ys = at_seam xs y ys

-- ---- how many there are of a kind

abbrev pub count : {A : Type 0} → (A → Bool) → List A → ℕ
count p [] = 0
count p (x ∷ xs) = cond (p x) (1 + count p xs) (count p xs)

pub count_is : {A : Type 0} (p : A → Bool) (xs : List A) → count p xs ≡ count_by p xs
count_is p xs = is_count_by (count p) p refl (λ x ys. refl) xs

count_front : (b : Bool) (m n k : ℕ) → m ≡ n + k → cond b (1 + m) m ≡ cond b (1 + n) n + k
count_front true m n k h = omega (arith, h)
count_front false m n k h = h

pub count_append : {A : Type 0} (p : A → Bool) (xs ys : List A) → count p (xs ++ ys) ≡ count p xs + count p ys
count_append p [] ys = omega arith
count_append p (x ∷ xs) ys = count_front (p x) (count p (xs ++ ys)) (count p xs) (count p ys) (count_append p xs ys)

not_counted : (b : Bool) (n : ℕ) → b ≡ false → n ≡ 0 → cond b (1 + n) n ≡ 0
not_counted true n differ none = absurd cc
not_counted false n differ none = none

pub count_none : {A : Type 0} (p : A → Bool) (xs : List A) → Each (λ x. p x ≡ false) xs → count p xs ≡ 0
count_none p [] h = refl
count_none p (x ∷ xs) h = not_counted (p x) (count p xs) h.0 (count_none p xs h.1)
