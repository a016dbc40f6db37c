-- Items of lists, by their numbers.
use Rattle.std.proofs.Common.{◌≡◌, ℕ, zero, suc, ◌<◌, Some, List, [], ◌∷◌, length, slice_get, refl, arith}

pub record Item {A : Type 0} (xs : List A) (k : ℕ) : Type 0 where
  pub item : A
  pub there : slice_get xs k ≡ Some item

pub item_below : {A : Type 0} (xs : List A) (k : ℕ) → k < length xs → Item xs k
item_below [] k small = absurd (omega (arith, small))
item_below (x ∷ xs) zero small = record { item = x; there = refl }
item_below (x ∷ xs) (suc k) small =
    let less : k < length xs = omega (arith, small) in
    let later : Item xs k = item_below xs k less in
    record { item = later.item; there = later.there }
