-- Items of threads, each thread but the root below one item of a smaller thread. From each item a chain leads upwards,
-- which has one item at most of each thread; what is counted below different children of one item is apart.
use Rattle.std.proofs.Common.{ℕ, zero, suc, ◌≡◌, ◌≢◌, ◌<◌, ◌≤◌, ◌+◌, inl, inr, Bool, true, false, cond, Option, Some, None, List, refl, sym, ◌∙◌, subst, ap}
use Rattle.std.proofs.Common.{arith, nat_eq, eq-eqb}
use Rattle.priority_weights.proofs.Sums.{mark, sum_over, total, AllOf, Apart, same_or_not, eq_false, all_map, over_le, over_zero, apart_once, total_le}
use Rattle.priority_weights.proofs.Sums.{total_add, total_once, total_over}

-- of is the thread of an item, and up the item above a thread
pub record IsTree (of : ℕ → ℕ) (up : ℕ → Option ℕ) (threads : ℕ) : Type 0 where
  pub small : (y : ℕ) → of y < threads
  pub falls : (k z : ℕ) → k < threads → up k ≡ Some z → of z < k

abbrev pub at_some : (ℕ → ℕ) → Option ℕ → ℕ
at_some g None = 0
at_some g (Some z) = g z

-- 1 where the chain from item y has an item of thread t with this mark, within so many threads
abbrev pub reach : (ℕ → ℕ) → (ℕ → Option ℕ) → ℕ → ℕ → (ℕ → Bool) → ℕ → ℕ
reach of up zero t low y = 0
reach of up (suc f) t low y = cond (nat_eq (of y) t) (mark (low y)) (at_some (reach of up f t low) (up (of y)))

reach_here : (of : ℕ → ℕ) (up : ℕ → Option ℕ) (f t : ℕ) (low : ℕ → Bool) (y : ℕ) → of y ≡ t → reach of up (suc f) t low y ≡ mark (low y)
reach_here of up f t low y e =
    let P : Bool → Type 0 = λ b. cond b (mark (low y)) (at_some (reach of up f t low) (up (of y))) ≡ mark (low y) in
    subst P (sym (eq-eqb (of y) t e)) refl

reach_above : (of : ℕ → ℕ) (up : ℕ → Option ℕ) (f t : ℕ) (low : ℕ → Bool) (y : ℕ) → of y ≢ t → reach of up (suc f) t low y
    ≡ at_some (reach of up f t low) (up (of y))
reach_above of up f t low y ne =
    let P : Bool → Type 0 = λ b. cond b (mark (low y)) (at_some (reach of up f t low) (up (of y))) ≡ at_some (reach of up f t low) (up (of y)) in
    subst P (sym (eq_false (of y) t ne)) refl

mark_small : (b : Bool) → mark b ≤ 1
mark_small true = omega arith
mark_small false = omega arith

some_small : (g : ℕ → ℕ) → ((z : ℕ) → g z ≤ 1) → (o : Option ℕ) → at_some g o ≤ 1
some_small g h None = omega arith
some_small g h (Some z) = h z

some_zero : (g : ℕ → ℕ) (o : Option ℕ) → ((z : ℕ) → o ≡ Some z → g z ≡ 0) → at_some g o ≡ 0
some_zero g None h = refl
some_zero g (Some z) h = h z refl

pub reach_small : (of : ℕ → ℕ) (up : ℕ → Option ℕ) (f t : ℕ) (low : ℕ → Bool) (y : ℕ) → reach of up f t low y ≤ 1
reach_small of up zero t low y = omega arith
reach_small of up (suc f) t low y = elim (same_or_not (of y) t) [
  | inl e ↦ (let h = reach_here of up f t low y e in let m = mark_small (low y) in omega (arith, h, m))
  | inr ne ↦ (let h = reach_above of up f t low y ne in let m = some_small (reach of up f t low) (λ z. reach_small of up f t low z) (up (of y)) in
      omega (arith, h, m))
]

-- a chain does not come back to greater threads
reach_none : (of : ℕ → ℕ) (up : ℕ → Option ℕ) (threads : ℕ) → IsTree of up threads → (f t : ℕ) (low : ℕ → Bool) (y : ℕ) → of y < t → reach of up f t low y ≡ 0
reach_none of up threads tree zero t low y lt = refl
reach_none of up threads tree (suc f) t low y lt = reach_above of up f t low y (omega (arith, lt)) ∙ some_zero (reach of up f t low) (up (of y))
    (λ z e. let less = tree.falls (of y) z (tree.small y) e in reach_none of up threads tree f t low z (omega (arith, less, lt)))

-- item u, and threads right below it, with marks: below the bound the item itself, what is marked of its thread before it,
-- and what is marked of the threads below it, is marked up to it
pub record IsBelow (of : ℕ → ℕ) (up : ℕ → Option ℕ) (u : ℕ) (before upto : ℕ → Bool) (ks : List ℕ) : Type 0 where
  pub itself : upto u ≡ true
  pub later : before u ≡ false
  pub more : (y : ℕ) → before y ≡ true → upto y ≡ true
  pub under : AllOf (λ k. (of u < k) × (up k ≡ Some u)) ks
  pub apart : Apart ks

mark_more : (a b : Bool) → (a ≡ true → b ≡ true) → mark a ≤ mark b
mark_more true true h = omega arith
mark_more true false h = absurd (let e = h refl in cc)
mark_more false b h = omega arith

met : (of : ℕ → ℕ) (up : ℕ → Option ℕ) (u g : ℕ) (low : ℕ → Bool) (z : ℕ) → z ≡ u → of z < g → reach of up g (of u) low z ≡ mark (low u)
met of up u zero low z is less = absurd (omega (arith, less))
met of up u (suc g) low z is less = reach_here of up g (of u) low z (ap of is) ∙ ap (λ x. mark (low x)) is

pub part : (of : ℕ → ℕ) (up : ℕ → Option ℕ) (threads : ℕ) → IsTree of up threads → (u : ℕ) (before upto : ℕ → Bool) (ks : List ℕ)
    → IsBelow of up u before upto ks →
    (marks : ℕ → ℕ → Bool) (f y : ℕ) → of y < f →
    sum_over (λ k. reach of up f k (marks k) y) ks + reach of up f (of u) before y + mark (nat_eq y u) ≤ reach of up f (of u) upto y
part of up threads tree u before upto ks b marks zero y lt = absurd (omega (arith, lt))
part of up threads tree u before upto ks b marks (suc f) y lt = elim
    (same_or_not (of y) (of u)) [ inl e ↦ level e | inr ne ↦ lower ne (λ z less. part of up threads tree u before upto ks b marks f z less) (up (of y)) refl ]
  where
    level : of y ≡ of u → sum_over (λ k. reach of up (suc f) k (marks k) y) ks + reach of up (suc f) (of u) before y + mark (nat_eq y u) ≤ reach of up (suc f)
        (of u) upto y
    level e =
        let kids = over_zero (λ k. reach of up (suc f) k (marks k) y) ks
        (all_map (λ k. (of u < k) × (up k ≡ Some u)) (λ k. reach of up (suc f) k (marks k) y ≡ 0)
        (λ k h. let less = h.0 in reach_none of up threads tree (suc f) k (marks k) y (omega (arith, less, e))) ks b.under) in
        let first = reach_here of up f (of u) before y e in
        let second = reach_here of up f (of u) upto y e in
        elim (same_or_not y u) [
          | inl is ↦
              let at : mark (nat_eq y u) ≡ 1 = ap mark (eq-eqb y u is) in
              let P : ℕ → Type 0 = λ x. mark (before x) ≡ 0 in
              let Q : ℕ → Type 0 = λ x. mark (upto x) ≡ 1 in
              let c : mark (before y) ≡ 0 = subst P (sym is) (ap mark b.later) in
              let d : mark (upto y) ≡ 1 = subst Q (sym is) (ap mark b.itself) in
              omega (arith, kids, first, second, at, c, d)
          | inr not ↦
              let at : mark (nat_eq y u) ≡ 0 = ap mark (eq_false y u not) in
              let c = mark_more (before y) (upto y) (b.more y) in
              omega (arith, kids, first, second, at, c)
        ]

    -- of a thread with no other item above it than u, or with u itself above it
    other : of y ≢ of u → (z : ℕ) → up (of y) ≡ Some z → z ≢ u → (k : ℕ) → (of u < k) × (up k ≡ Some u)
        → reach of up (suc f) k (marks k) y ≤ reach of up f k (marks k) z
    other ne z e not k h =
        let apart : of y ≢ k = λ same. (let P : ℕ → Type 0 = λ x. up x ≡ Some z in let is = subst P same e in let has = h.1 in not (cc)) in
        let h = reach_above of up f k (marks k) y apart in
        let g : at_some (reach of up f k (marks k)) (up (of y)) ≡ reach of up f k (marks k) z = ap (at_some (reach of up f k (marks k))) e in
        omega (arith, h, g)

    under_it : up (of y) ≡ Some u → (k : ℕ) → (of u < k) × (up k ≡ Some u) → reach of up (suc f) k (marks k) y ≤ mark (nat_eq (of y) k)
    under_it e k h = elim (same_or_not (of y) k) [
      | inl same ↦ (let s = reach_small of up (suc f) k (marks k) y in let m : mark (nat_eq (of y) k) ≡ 1 = ap mark (eq-eqb (of y) k same) in
          omega (arith, s, m))
      | inr apart ↦
          let g = reach_above of up f k (marks k) y apart in
          let to : at_some (reach of up f k (marks k)) (up (of y)) ≡ reach of up f k (marks k) u = ap (at_some (reach of up f k (marks k))) e in
          let none = reach_none of up threads tree f k (marks k) u h.0 in
          omega (arith, g, to, none)
    ]

    lower : of y ≢ of u → ((z : ℕ) → of z < f → sum_over (λ k. reach of up f k (marks k) z) ks + reach of up f (of u) before z + mark
        (nat_eq z u) ≤ reach of up f (of u) upto z) → (o : Option ℕ) → up (of y) ≡ o → sum_over (λ k. reach of up (suc f) k (marks k) y) ks + reach of up
        (suc f) (of u) before y + mark (nat_eq y u) ≤ reach of up (suc f) (of u) upto y
    lower ne on None e =
        let kids = over_zero (λ k. reach of up (suc f) k (marks k) y) ks
        (all_map (λ k. (of u < k) × (up k ≡ Some u)) (λ k. reach of up (suc f) k (marks k) y ≡ 0)
        (λ k h. reach_above of up f k (marks k) y (λ same. (let P : ℕ → Type 0 = λ x. up x ≡ None in let is = subst P same e in let has = h.1 in cc))
        ∙ ap (at_some (reach of up f k (marks k))) e) ks b.under) in
        let first = reach_above of up f (of u) before y ne ∙ ap (at_some (reach of up f (of u) before)) e in
        let at : mark (nat_eq y u) ≡ 0 = ap mark (eq_false y u (λ is. ne (ap of is))) in
        omega (arith, kids, first, at)
    lower ne on (Some z) e =
        let first = reach_above of up f (of u) before y ne ∙ ap (at_some (reach of up f (of u) before)) e in
        let second = reach_above of up f (of u) upto y ne ∙ ap (at_some (reach of up f (of u) upto)) e in
        let at : mark (nat_eq y u) ≡ 0 = ap mark (eq_false y u (λ is. ne (ap of is))) in
        let less = tree.falls (of y) z (tree.small y) e in
        elim (same_or_not z u) [
          | inl is ↦
              let P : ℕ → Type 0 = λ x. up (of y) ≡ Some x in
              let to : up (of y) ≡ Some u = subst P is e in
              let kids = over_le (λ k. reach of up (suc f) k (marks k) y) (λ k. mark (nat_eq (of y) k)) ks
              (all_map (λ k. (of u < k) × (up k ≡ Some u)) (λ k. reach of up (suc f) k (marks k) y ≤ mark (nat_eq (of y) k)) (under_it to) ks b.under) in
              let once = apart_once (of y) ks b.apart in
              let c = met of up u f before z is (omega (arith, less, lt)) in
              let d = met of up u f upto z is (omega (arith, less, lt)) in
              let c' : mark (before u) ≡ 0 = ap mark b.later in
              let d' : mark (upto u) ≡ 1 = ap mark b.itself in
              omega (arith, kids, once, first, second, at, c, d, c', d')
          | inr not ↦
              let kids = over_le (λ k. reach of up (suc f) k (marks k) y) (λ k. reach of up f k (marks k) z) ks
              (all_map (λ k. (of u < k) × (up k ≡ Some u)) (λ k. reach of up (suc f) k (marks k) y ≤ reach of up f k (marks k) z) (other ne z e not) ks b.under)
              in
              let rest = on z (omega (arith, less, lt)) in
              omega (arith, kids, first, second, at, rest)
        ]

-- so in sum over all items below a bound
pub parts : (of : ℕ → ℕ) (up : ℕ → Option ℕ) (threads : ℕ) → IsTree of up threads → (u : ℕ) (before upto : ℕ → Bool) (ks : List ℕ)
    → IsBelow of up u before upto ks →
    (marks : ℕ → ℕ → Bool) (n : ℕ) → u < n →
    sum_over (λ k. total (reach of up threads k (marks k)) n) ks + total (reach of up threads (of u) before) n + 1 ≤ total (reach of up threads (of u) upto) n
parts of up threads tree u before upto ks b marks n lt =
    let kids = total_over (λ k. reach of up threads k (marks k)) n ks in
    let both = total_add (λ y. sum_over (λ k. reach of up threads k (marks k) y) ks) (reach of up threads (of u) before) n in
    let all = total_add (λ y. sum_over (λ k. reach of up threads k (marks k) y) ks + reach of up threads (of u) before y) (λ y. mark (nat_eq y u)) n in
    let once = total_once u n lt in
    let le = total_le (λ y. sum_over (λ k. reach of up threads k (marks k) y) ks + reach of up threads (of u) before y + mark (nat_eq y u))
    (reach of up threads (of u) upto) n
    (λ y below. part of up threads tree u before upto ks b marks threads y (tree.small y)) in
    omega (arith, kids, both, all, once, le)
