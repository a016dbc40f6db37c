-- An item among mapped ones is the image of one.
use Rattle.std.proofs.Common.{◌≡◌, ℕ, zero, suc, Some, List, [], ◌∷◌, ◌++◌, map, slice_get, Contains, refl, sym, subst}
use Rattle.chart_machine_laws.proofs.LyingIn.{head_in, tail_in}

-- one of mapped items
pub mapped_one : {A B : Type 0} (f : A → B) (xs : List A) (before after : List B) (y : B) → map f xs ≡ before ++ y ∷ after → (i : ℕ) × (x : A) ×
    (slice_get xs i ≡ Some x) × (y ≡ f x)
mapped_one f [] [] after y e = absurd cc
mapped_one f [] (z ∷ before) after y e = absurd cc
mapped_one f (x ∷ xs) [] after y e = (0, x, refl, let same : f x ≡ y = cc in sym same)
mapped_one f (x ∷ xs) (z ∷ before) after y e =
    let rest : map f xs ≡ before ++ y ∷ after = cc in
    let one = mapped_one f xs before after y rest in (suc one.0, one.1, one.2, one.3)

pub got_in : (xs : List ℕ) (i x : ℕ) → slice_get xs i ≡ Some x → Contains xs x
got_in [] i x e = absurd cc
got_in (y ∷ xs) zero x e = let same : y ≡ x = cc in subst (Contains (y ∷ xs)) same (head_in y xs)
got_in (y ∷ xs) (suc i) x e = tail_in y x xs (got_in xs i x e)
