-- Names behind references, in a row.
use Rattle.std.proofs.Common.{◌≡◌, ℕ, zero, suc, ◌<◌, Some, List, [], ◌∷◌, ◌++◌, map, length, get_or, slice_get, Bor, refl, sym, ◌∙◌, ap, arith}
use Rattle.sc_text.specs.declared.drafts.parts.Named.{Named}

pub one_more : (old new : List (Bor Named)) (n : Bor Named) → new ≡ old ++ n ∷ [] → map (λ m. m.now) new ≡ map (λ m. m.now) old ++ n.now ∷ []
one_more old new n is = ap (map (λ m. m.now)) is ∙ both old
  where
    both : (xs : List (Bor Named)) → map (λ m. m.now) (xs ++ n ∷ []) ≡ map (λ m. m.now) xs ++ n.now ∷ []
    both [] = refl
    both (x ∷ xs) = ap (λ r. x.now ∷ r) (both xs)

pub as_many : (xs : List (Bor Named)) → length (map (λ m. m.now) xs) ≡ length xs
as_many [] = refl
as_many (x ∷ xs) = let more : _ = as_many xs in omega (arith, more)

pub stands : (xs : List (Bor Named)) (at : ℕ) (n : Bor Named) → at < length xs → n ≡ get_or xs at n → slice_get (map (λ m. m.now) xs) at ≡ Some n.now
stands [] at n within is = absurd (omega (arith, within))
stands (x ∷ xs) zero n within is = ap (λ m. Some m.now) (sym is)
stands (x ∷ xs) (suc at) n within is = stands xs at n (omega (arith, within)) is
