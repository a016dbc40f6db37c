-- What holds of each element below an index, and of the one there, holds below the next index.
use Rattle.std.proofs.Common.{◌≡◌, ℕ, ◌<◌, ◌+◌, ◌≤◌, List, length, get_or, slice_get, Some, sym, subst, ap, ◌∙◌, arith, inl, inr, ◌⊎◌}
use Rattle.std.proofs.lemmas.Option.{slice_get_within, slice_get-get_or}

pub below_or_at : (n i : ℕ) → n < i + 1 → (n < i) ⊎ (n ≡ i)
below_or_at n i below = grind arith

pub each_more : {X : Type 0} (P : X → Type 0) (xs : List X) (i : ℕ) (x : X) → i < length xs → x ≡ get_or xs i x →
    ((n : ℕ) (y : X) → n < i → slice_get xs n ≡ Some y → P y) → P x →
    (n : ℕ) (y : X) → n < i + 1 → slice_get xs n ≡ Some y → P y
each_more P xs i x within is earlier here n y below at =
    elim (below_or_at n i below) [
      | inl less ↦ earlier n y less at
      | inr same ↦
          (let there : slice_get xs i ≡ Some x = slice_get-get_or xs i x within ∙ ap Some (sym is) in
          let both : Some x ≡ Some y = sym there ∙ (ap (slice_get xs) (sym same) ∙ at) in
          let equal : x ≡ y = cc in
          subst P equal here)
    ]

pub each_of_all : {X : Type 0} (P : X → Type 0) (xs : List X) (i : ℕ) → length xs ≤ i →
    ((n : ℕ) (y : X) → n < i → slice_get xs n ≡ Some y → P y) →
    (n : ℕ) (y : X) → slice_get xs n ≡ Some y → P y
each_of_all P xs i past each n y at =
    let within : n < length xs = slice_get_within xs n y at in each n y (omega arith) at
