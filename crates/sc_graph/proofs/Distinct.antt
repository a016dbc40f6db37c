-- Lists in which no number stands twice.
use Rattle.std.proofs.Common.{ℕ, ◌≡◌, ◌≢◌, ◌+◌, ◌<◌, ◌≤◌, Some, List, Contains, length, take, get_or, slice_get, refl, sym, subst, ◌∙◌, arith, below_more}
use Rattle.std.proofs.Common.{length-take}
use Rattle.std.proofs.lemmas.List.{get_or-take}
use Rattle.std.proofs.lemmas.Option.{slice_get_read, slice_get-get_or, slice_get_within, get_or_from_slice_get}
use Rattle.sc_graph.specs.Size.{AreDistinct}

within_take : (xs : List ℕ) (i k : ℕ) → k < length (take i xs) → (k < i) × (k < length xs)
within_take xs i k lt = (omega (arith, length-take i xs, lt), omega (arith, length-take i xs, lt))

-- the number at i stands before i
pub not_distinct : (xs : List ℕ) (i : ℕ) → i < length xs → Contains (take i xs) (get_or xs i 0) → ¬ AreDistinct xs
not_distinct xs i lt c distinct =
    let bounds : (c.0 < i) × (c.0 < length xs) = within_take xs i c.0 c.1 in
    let same : get_or xs i 0 ≡ get_or xs c.0 (get_or xs i 0) = sym c.2 ∙ get_or-take i xs c.0 (get_or xs i 0) bounds.0 in
    distinct c.0 i (get_or xs i 0) (get_or xs i 0) bounds.0
    (slice_get_read xs (length xs) c.0 (get_or xs i 0) refl bounds.1 same)
    (slice_get-get_or xs i 0 lt)
    refl

-- an earlier number stands before i
pub stands_before : (xs : List ℕ) (h i a : ℕ) → h < i → slice_get xs h ≡ Some a → Contains (take i xs) a
stands_before xs h i a lt at =
    let within : h < length xs = slice_get_within xs h a at in
    (h, omega (arith, length-take i xs), get_or-take i xs h a lt ∙ get_or_from_slice_get xs h a a at)

abbrev pub DistinctBelow : List ℕ → ℕ → Type 0
DistinctBelow xs n = (i j a b : ℕ) → i < j → j < n → slice_get xs i ≡ Some a → slice_get xs j ≡ Some b → a ≢ b

pub distinct_more : (xs : List ℕ) (i : ℕ) → i < length xs → ¬ Contains (take i xs) (get_or xs i 0) → DistinctBelow xs i → DistinctBelow xs (i + 1)
distinct_more xs i lt new before = λ h j a b less below left right.
    below_more (λ (j : ℕ). h < j → slice_get xs j ≡ Some b → a ≢ b) i
    (λ j below less right. before h j a b less below left right)
    (λ less right same.
    let e : b ≡ get_or xs i 0 = sym (get_or_from_slice_get xs i b 0 right) in
    let f : a ≡ get_or xs i 0 = same ∙ e in
    new (subst (λ (x : ℕ). Contains (take i xs) x) f (stands_before xs h i a less left)))
    j below less right

pub distinct_all : (xs : List ℕ) (n : ℕ) → length xs ≤ n → DistinctBelow xs n → AreDistinct xs
distinct_all xs n all before = λ i j a b less left right.
    let within : j < length xs = slice_get_within xs j b right in
    before i j a b less (omega arith) left right
