-- The names of labels whose numbers stand once each are distinct.
use Rattle.std.proofs.Common.{◌≡◌, ℕ, ◌<◌, ◌≤◌, inl, inr, Bool, true, false, IsTrue, List, [], ◌∷◌, map, refl, arith}
use Rattle.std.specs.List.{list_any}
use Rattle.std.specs.Str.{bytes_eq}
use Rattle.std.proofs.lemmas.Bool.{eq-eqb}
use Rattle.std.proofs.lemmas.Slice.Eq.{bytes_eq-Decides}
use Rattle.sc_text.specs.Parts.{are_distinct}
use Rattle.sc_text.proofs.EachItem.{Each}
use Rattle.chart_lowering.specs.Lowering.{label_name}
use Rattle.chart_lowering.proofs.Names.{IsCountable, names_differ}
use Rattle.chart_lowering.proofs.Once.{count, below_or_not}

false_where_never : (b : Bool) → (IsTrue b → ⊥) → b ≡ false
false_where_never true never = absurd (never refl)
false_where_never false never = refl

-- a number stands in a list that begins with it
counted_there : (k m : ℕ) (ns : List ℕ) → k ≡ m → 1 ≤ count k (m ∷ ns)
counted_there k m ns same = rw (eq-eqb k m same) (omega arith)

not_counted_later : (k m : ℕ) (ns : List ℕ) → count k (m ∷ ns) ≡ 0 → count k ns ≡ 0
not_counted_later k m ns none = omega (arith, none)

no_such_name : (n : ℕ) (ns : List ℕ) → IsCountable n → Each IsCountable ns → count n ns ≡ 0 → list_any (bytes_eq (label_name n)) (map label_name ns) ≡ false
no_such_name n [] small h none = refl
no_such_name n (m ∷ ns) small h none =
    let differ : bytes_eq (label_name n) (label_name m) ≡ false =
    false_where_never (bytes_eq (label_name n) (label_name m))
    (λ same.
    let there : 1 ≤ count n (m ∷ ns) = counted_there n m ns (names_differ n m small h.0 ((bytes_eq-Decides (label_name n) (label_name m)).0 same)) in
    absurd (omega (arith, there, none))) in
    rw differ (no_such_name n ns small h.1 (not_counted_later n m ns none))

first_once : (n : ℕ) (ns : List ℕ) → count n (n ∷ ns) ≤ 1 → count n ns ≡ 0
first_once n ns once = let there : 1 ≤ count n (n ∷ []) = counted_there n n [] refl in omega (arith, once, there)

later_once : (n k : ℕ) (ns : List ℕ) → count k (n ∷ ns) ≤ 1 → count k ns ≤ 1
later_once n k ns once = omega (arith, once)

pub names_distinct : (ns : List ℕ) → Each IsCountable ns → ((k : ℕ) → count k ns ≤ 1) → are_distinct (map label_name ns) ≡ true
names_distinct [] h once = refl
names_distinct (n ∷ ns) h once =
    rw (no_such_name n ns h.0 h.1 (first_once n ns (once n))) (names_distinct ns h.1 (λ k. later_once n k ns (once k)))

-- numbers that stand nowhere from `end` on are below it
pub all_below : (end : ℕ) (ns : List ℕ) → ((k : ℕ) → end ≤ k → count k ns ≡ 0) → Each (λ n. n < end) ns
all_below end [] h = tt
all_below end (n ∷ ns) h = (
  elim (below_or_not n end) [
    | inl lt ↦ lt
    | inr le ↦ (let there : 1 ≤ count n (n ∷ ns) = counted_there n n ns refl in absurd (omega (arith, there, h n le)))
  ],
  all_below end ns (λ k le. not_counted_later k n ns (h k le)),
)
