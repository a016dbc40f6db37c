-- Places side by side with what has them.
use Rattle.std.proofs.Common.{◌≡◌, ℕ, zero, suc, Some, List, [], ◌∷◌, ◌++◌, map, length, slice_get, refl, ap, subst}
use Rattle.grammar.proofs.Each.{Every}
use Rattle.node_sources.specs.ChartLaws.{Tells}

abbrev pub Pairs : {A : Type 0} → (A → ℕ → Type 0) → List ℕ → List A → Type 0
Pairs Stands [] [] = Unit {0}
Pairs Stands (at ∷ places) (x ∷ xs) = Stands x at × Pairs Stands places xs
Pairs Stands places xs = ⊥

pub pairs_append : {A : Type 0} (Stands : A → ℕ → Type 0) (places more : List ℕ) (xs ys : List A) → Pairs Stands places xs →
    Pairs Stands more ys → Pairs Stands (places ++ more) (xs ++ ys)
pairs_append Stands [] more [] ys h k = k
pairs_append Stands [] more (x ∷ xs) ys h k = absurd h
pairs_append Stands (at ∷ places) more [] ys h k = absurd h
pairs_append Stands (at ∷ places) more (x ∷ xs) ys h k = (h.0, pairs_append Stands places more xs ys h.1 k)

pub pairs_as : {A : Type 0} (Stands Lies : A → ℕ → Type 0) (places : List ℕ) (xs : List A) →
    ((x : A) (at : ℕ) → Stands x at → Lies x at) → Pairs Stands places xs → Pairs Lies places xs
pairs_as Stands Lies [] [] step h = tt
pairs_as Stands Lies [] (x ∷ xs) step h = absurd h
pairs_as Stands Lies (at ∷ places) [] step h = absurd h
pairs_as Stands Lies (at ∷ places) (x ∷ xs) step h = (step x at h.0, pairs_as Stands Lies places xs step h.1)

-- both read off the same items
pub pairs_made : {A B : Type 0} (Stands : A → ℕ → Type 0) (place : B → ℕ) (made : B → A) (zs : List B) →
    Every (λ z. Stands (made z) (place z)) zs → Pairs Stands (map place zs) (map made zs)
pairs_made Stands place made [] h = tt
pairs_made Stands place made (z ∷ zs) h = (h.0, pairs_made Stands place made zs h.1)

pairs_length : {A : Type 0} (Stands : A → ℕ → Type 0) (places : List ℕ) (xs : List A) → Pairs Stands places xs →
    length places ≡ length xs
pairs_length Stands [] [] h = refl
pairs_length Stands [] (x ∷ xs) h = absurd h
pairs_length Stands (at ∷ places) [] h = absurd h
pairs_length Stands (at ∷ places) (x ∷ xs) h = ap suc (pairs_length Stands places xs h.1)

pairs_at : {A : Type 0} (Stands : A → ℕ → Type 0) (places : List ℕ) (xs : List A) → Pairs Stands places xs →
    (k at : ℕ) (x : A) → slice_get places k ≡ Some at → slice_get xs k ≡ Some x → Stands x at
pairs_at Stands [] xs h k at x i j = absurd cc
pairs_at Stands (here ∷ places) [] h k at x i j = absurd h
pairs_at Stands (here ∷ places) (y ∷ xs) h zero at x i j = subst (Stands x) (some i) (subst (λ z. Stands z here) (some j) h.0)
  where
    some : {B : Type 0} {a b : B} → Some a ≡ Some b → a ≡ b
    some e = cc
pairs_at Stands (here ∷ places) (y ∷ xs) h (suc k) at x i j = pairs_at Stands places xs h.1 k at x i j

pub pairs_tell : {A : Type 0} (Stands : A → ℕ → Type 0) (places : List ℕ) (xs : List A) → Pairs Stands places xs →
    Tells Stands places xs
pairs_tell Stands places xs h = record { each = pairs_length Stands places xs h; stand = pairs_at Stands places xs h }
