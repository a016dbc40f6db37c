-- Walks that grow, close, and are turned to begin elsewhere.
use Rattle.std.proofs.Common.{ℕ, zero, suc, ◌≡◌, ◌≢◌, ◌<◌, ◌≤◌, ◌+◌, ◌⊎◌, inl, inr, Bool, true, false, cond, List, [], ◌∷◌, ◌++◌, length, get_or, take, drop}
use Rattle.std.proofs.Common.{refl, sym, subst, ap, arith}
use Rattle.std.specs.Prelude.{slice_index, count_by, ◌==◌, All}
use Rattle.std.proofs.lemmas.List.{take-append-drop, append-nil}
use Rattle.std.proofs.lemmas.List.Sums.{sum_by-append, sum_by_push, sum_by-cons}
use Rattle.std.proofs.lemmas.Bool.Decides.{eqb_tells}
use Rattle.std.proofs.lemmas.List.Elements.{All-append, All-take, All-drop}
use Rattle.least_or_cycle.specs.Walks.{Walk, Closes, IsDistinct, IsCycle, LeadsTo, LeadsStrictlyTo}
use Rattle.least_or_cycle.specs.Inside.Ranking.{AreRanks}
use Rattle.least_or_cycle.specs.Inside.Tracing.{IsRound, IsTraced, IsLeastAt}

-- two walks, one after the other
pub walk_join : (leads : ℕ → ℕ → ℕ → Type 0) (m : ℕ) (front : List ℕ) (k : ℕ) (back : List ℕ) (n u v : ℕ) → Walk leads m front k u → Walk leads k back n v
    → Walk leads m (front ++ k ∷ back) n (u + v)
walk_join leads m [] k back n u v a b = (u, v, a, b, refl)
walk_join leads m (x ∷ front) k back n u v a b =
    let sums = a.4 in
    (a.0, a.1 + v, a.2, walk_join leads x front k back n a.1 v a.3 b, omega (arith, sums))

-- a walk, cut at one of its nodes
pub walk_split : (leads : ℕ → ℕ → ℕ → Type 0) (m : ℕ) (front : List ℕ) (k : ℕ) (back : List ℕ) (n w : ℕ) → Walk leads m (front ++ k ∷ back) n w
    → (u : ℕ) × (v : ℕ) × Walk leads m front k u × Walk leads k back n v × (w ≡ u + v)
walk_split leads m [] k back n w a = a
walk_split leads m (x ∷ front) k back n w a =
    let r = walk_split leads x front k back n a.1 a.3 in
    let sums = a.4 in
    let inner = r.4 in
    (a.0 + r.0, r.1, (a.0, r.0, a.2, r.2, refl), r.3, omega (arith, sums, inner))

closes_turned : (leads : ℕ → ℕ → ℕ → Type 0) (front back : List ℕ) (w : ℕ) → Closes leads (front ++ back) w → Closes leads (back ++ front) w
closes_turned leads [] [] w c = c
closes_turned leads [] (b ∷ back) w c = let P : List ℕ → Type 0 = λ xs. Closes leads xs w in subst P (sym (append-nil (b ∷ back))) c
closes_turned leads (a ∷ front) [] w c = let P : List ℕ → Type 0 = λ xs. Closes leads xs w in subst P (append-nil (a ∷ front)) c
closes_turned leads (a ∷ front) (b ∷ back) w c =
    let r = walk_split leads a front b back a w c in
    let sums = r.4 in
    let P : ℕ → Type 0 = λ x. Walk leads b (back ++ a ∷ front) b x in
    let e : r.1 + r.0 ≡ w = omega (arith, sums) in
    subst P e (walk_join leads b back a front b r.1 r.0 r.3 r.2)

distinct_turned : (front back : List ℕ) → IsDistinct (front ++ back) → IsDistinct (back ++ front)
distinct_turned front back d = record {
  once = λ n.
      let one : ℕ → ℕ = λ m. cond (m == n) 1 0 in
      let there : count_by (λ m. m == n) (front ++ back) ≡ count_by (λ m. m == n) front + count_by (λ m. m == n) back = sum_by-append one front back in
      let here : count_by (λ m. m == n) (back ++ front) ≡ count_by (λ m. m == n) back + count_by (λ m. m == n) front = sum_by-append one back front in
      let least = d.once n in
      omega (arith, there, here, least);
}

-- a round, turned to begin with its least node, is a cycle
pub turned : (leads : ℕ → ℕ → ℕ → Type 0) (walk : List ℕ) (at : ℕ) → IsRound leads walk → IsLeastAt walk at → IsCycle leads (drop at walk ++ take at walk)
turned leads walk at r l =
    let whole : take at walk ++ drop at walk ≡ walk = take-append-drop at walk in
    let P : List ℕ → Type 0 = λ xs. Closes leads xs r.weight in
    let D : List ℕ → Type 0 = λ xs. IsDistinct xs in
    let head : slice_index (drop at walk ++ take at walk) 0 ≡ slice_index walk at = head_of walk at (take at walk) l.within in
    let Q : ℕ → Type 0 = λ x. All (λ n. x ≤ n) (drop at walk ++ take at walk) in
    let A : ℕ → Type 0 = λ n. slice_index walk at ≤ n in
    record {
      weight = r.weight;
      closes = closes_turned leads (take at walk) (drop at walk) r.weight (subst P (sym whole) r.closes);
      strict = r.strict;
      distinct = distinct_turned (take at walk) (drop at walk) (subst D (sym whole) r.distinct);
      least = subst Q (sym head) (All-append A (drop at walk) (take at walk) (All-drop A at walk l.least) (All-take A at walk l.least));
    }
  where
    head_of : (xs : List ℕ) (i : ℕ) (ys : List ℕ) → i < length xs → get_or (drop i xs ++ ys) 0 0 ≡ get_or xs i 0
    head_of [] i ys lt = absurd (omega arith)
    head_of (x ∷ xs) zero ys lt = refl
    head_of (x ∷ xs) (suc i) ys lt = head_of xs i ys (omega arith)

-- a walk that begins
pub traced_first : (leads : ℕ → ℕ → ℕ → Type 0) (ranks : List ℕ) (start first : ℕ) → LeadsStrictlyTo leads ranks start first
    → IsTraced leads ranks start (start ∷ []) first
traced_first leads ranks start first to = record {
  way = [];
  is = refl;
  weight = to.weight;
  path = to.edge;
  strict = to.strict;
  ranked = to.ranked;
  above = λ n lt. absurd (omega (arith, lt));
  distinct = record { once = λ n. one_at_most n };
}
  where
    one_at_most : (n : ℕ) → count_by (λ m. m == n) (start ∷ []) ≤ 1
    one_at_most n = at_most (start == n)
      where
        at_most : (b : Bool) → 0 + cond b 1 0 ≤ 1
        at_most true = omega arith
        at_most false = omega arith

-- what a number adds to the count of another
abbrev adds : ℕ → ℕ → ℕ
adds a n = cond (a == n) 1 0

adds_one : (a n : ℕ) → (a == n) ≡ true → adds a n ≡ 1
adds_one a n e = ap (λ b. let k : ℕ = cond b 1 0 in k) e

adds_none : (a n : ℕ) → (a == n) ≡ false → adds a n ≡ 0
adds_none a n e = ap (λ b. let k : ℕ = cond b 1 0 in k) e

counted : (a n : ℕ) → ((a ≡ n) × (adds a n ≡ 1)) ⊎ ((a ≢ n) × (adds a n ≡ 0))
counted a n = elim (eqb_tells a n) [
  | inl same ↦ inl (same.1, adds_one a n same.0)
  | inr other ↦ inr (other.1, adds_none a n other.0)
]

-- a walk that goes on
pub traced_more : (leads : ℕ → ℕ → ℕ → Type 0) (ranks : List ℕ) (start : ℕ) (walk : List ℕ) (at next : ℕ) → AreRanks leads start ranks
    → IsTraced leads ranks start walk at → at ≢ start →
    LeadsTo leads ranks at (slice_index ranks at) next → IsTraced leads ranks start (walk ++ at ∷ []) next
traced_more leads ranks start walk at next are t ne to =
    let strict = t.strict in
    let falls = to.falls in
    record {
      way = t.way ++ at ∷ [];
      is = ap (λ xs. xs ++ at ∷ []) t.is;
      weight = t.weight + to.weight;
      path = walk_join leads start t.way at [] next t.weight to.weight t.path to.edge;
      strict = omega (arith, strict);
      ranked = to.ranked;
      above = λ n lt.
          let sum : count_by (λ m. m == n) (t.way ++ at ∷ []) ≡ count_by (λ m. m == n) t.way + adds at n = sum_by_push (λ m. adds m n) t.way at in
          elim (counted at n) [
            | inl same ↦ (let P : ℕ → Type 0 = λ k. slice_index ranks next < slice_index ranks k in subst P same.0 falls)
            | inr other ↦
                (let none = other.1 in
                let above : slice_index ranks at < slice_index ranks n = t.above n (omega (arith, sum, none, lt)) in
                omega (arith, above, falls))
          ];
      distinct = record {
        once = λ n.
            let sum : count_by (λ m. m == n) (walk ++ at ∷ []) ≡ count_by (λ m. m == n) walk + adds at n = sum_by_push (λ m. adds m n) walk at in
            let once = t.distinct.once n in
            elim (counted at n) [
              | inl same ↦
                  (let new : count_by (λ m. m == n) walk ≡ 0 = (let P : ℕ → Type 0 = λ k. count_by (λ m. m == k) walk ≡ 0 in subst P same.0 fresh) in
                  let one = same.1 in
                  omega (arith, sum, new, one))
              | inr other ↦ (let none = other.1 in omega (arith, sum, none, once))
            ];
      };
    }
  where
    behind : (k : ℕ) → (k ≡ 0) ⊎ (0 < k)
    behind k = grind arith

    fresh : count_by (λ m. m == at) walk ≡ 0
    fresh =
        let one : ℕ → ℕ = λ m. adds m at in
        let whole : count_by (λ m. m == at) (start ∷ t.way) ≡ adds start at + count_by (λ m. m == at) t.way = sum_by-cons one start t.way in
        let P : List ℕ → Type 0 = λ xs. count_by (λ m. m == at) xs ≡ 0 in
        let no_start : adds start at ≡ 0 = elim (counted start at) [ inl same ↦ absurd (ne (sym same.0)) | inr other ↦ other.1 ] in
        let no_way : count_by (λ m. m == at) t.way
        ≡ 0 = elim (behind (count_by (λ m. m == at) t.way)) [ inl e ↦ e | inr lt ↦ absurd (let bad = t.above at lt in omega (arith, bad)) ] in
        subst P (sym t.is) (omega (arith, whole, no_start, no_way))

-- a walk that is back at its start
pub traced_round : (leads : ℕ → ℕ → ℕ → Type 0) (ranks : List ℕ) (start : ℕ) (walk : List ℕ) (at : ℕ) → IsTraced leads ranks start walk at → at ≡ start
    → IsRound leads walk
traced_round leads ranks start walk at t e =
    let P : List ℕ → Type 0 = λ xs. Closes leads xs t.weight in
    let Q : ℕ → Type 0 = λ n. Walk leads start t.way n t.weight in
    record { weight = t.weight; closes = subst P (sym t.is) (subst Q e t.path); strict = t.strict; distinct = t.distinct }
