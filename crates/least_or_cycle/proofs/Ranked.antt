-- Ranks stay ranks as more nodes are ranked.
use Rattle.std.proofs.Common.{ℕ, ◌≡◌, ◌≢◌, ◌<◌, ◌≤◌, ◌+◌, ◌-◌, ◌⊎◌, inl, inr, List, length, get_or, sym, ◌∙◌, subst, arith, get_or-set_other, get_or-set_same}
use Rattle.std.specs.Prelude.{slice_index}
use Rattle.std.proofs.Math.ListN.{set}
use Rattle.std.proofs.lemmas.List.{length-set}
use Rattle.std.proofs.lemmas.List.Sums.{sum_by-set}
use Rattle.least_or_cycle.specs.Walks.{LeadsTo}
use Rattle.least_or_cycle.specs.Inside.Ranking.{zeros, AreRanks, RanksMore}

same_or_not : (a b : ℕ) → (a ≡ b) ⊎ (a ≢ b)
same_or_not a b = grind arith

fewer_zeros : (ranks : List ℕ) (m x : ℕ) → m < length ranks → get_or ranks m 0 ≡ 0 → 0 < x → zeros (set ranks m x) + 1 ≡ zeros ranks
fewer_zeros ranks m x lt none more =
    let h : zeros (set ranks m x) + (1 - get_or ranks m 0) ≡ zeros ranks + (1 - x) = sum_by-set (λ y. 1 - y) ranks m x 0 lt in
    omega (arith, h, none, more)

-- there is room for one more rank
pub room : (leads : ℕ → ℕ → ℕ → Type 0) (target : ℕ) (ranks : List ℕ) (m n : ℕ) → AreRanks leads target ranks → m < length ranks → slice_index ranks m ≡ 0
    → slice_index ranks n + 1 ≤ length ranks
room leads target ranks m n are lt none =
    let fewer : zeros (set ranks m 1) + 1 ≡ zeros ranks = fewer_zeros ranks m 1 lt none (omega arith) in
    let bound = are.small n in
    omega (arith, fewer, bound)

-- a rank that is given to a node that had none
pub ranked_more : (leads : ℕ → ℕ → ℕ → Type 0) (target : ℕ) (ranks : List ℕ) (m n below : ℕ) → AreRanks leads target ranks → m < length ranks →
    slice_index ranks m ≡ 0 → LeadsTo leads ranks m below n → RanksMore leads target ranks (set ranks m (slice_index ranks n + 1))
ranked_more leads target ranks m n below are lt none to =
    let x : ℕ = slice_index ranks n + 1 in
    let new : List ℕ = set ranks m x in
    let fewer : zeros new + 1 ≡ zeros ranks = fewer_zeros ranks m x lt none (omega arith) in
    let here : get_or new m 0 ≡ x = get_or-set_same ranks m x 0 lt in
    let long : length new ≡ length ranks = length-set ranks m x in
    let other : (k : ℕ) → k ≢ m → get_or new k 0 ≡ get_or ranks k 0 = λ k ne. get_or-set_other ranks m k x 0 ne in
    let ranked_other : (k : ℕ) → 0 < slice_index ranks k → k ≢ m = λ k lt e. let P : ℕ → Type 0 = λ y. 0 < slice_index ranks y in
    let bad : 0 < slice_index ranks m = subst P e lt in omega (arith, bad, none) in
    let first = are.first in
    record {
      ranks = record {
        first = let ne : target ≢ m = ranked_other target (omega (arith, first)) in other target ne ∙ first;
        falls = λ k has not. elim (same_or_not k m) [
          | inl e ↦
              let ne : n ≢ m = ranked_other n to.ranked in
              let same : get_or new n 0 ≡ get_or ranks n 0 = other n ne in
              let ranked = to.ranked in
              let P : ℕ → Type 0 = λ y. (z : ℕ) × LeadsTo leads new y (slice_index new y) z in
              subst P (sym e) (n, record { weight = to.weight; edge = to.edge; ranked = omega (arith, same, ranked); falls = omega (arith, same, here) })
          | inr ne ↦
              let was : get_or new k 0 ≡ get_or ranks k 0 = other k ne in
              let had : 0 < slice_index ranks k = omega (arith, has, was) in
              let w = are.falls k had not in
              let to_ranked = w.1.ranked in
              let to_falls = w.1.falls in
              let apart : w.0 ≢ m = ranked_other w.0 to_ranked in
              let same : get_or new w.0 0 ≡ get_or ranks w.0 0 = other w.0 apart in
              (w.0, record { weight = w.1.weight; edge = w.1.edge; ranked = omega (arith, same, to_ranked); falls = omega (arith, same, was, to_falls) })
        ];
        small = λ k. elim (same_or_not k m) [
          | inl e ↦
              let P : ℕ → Type 0 = λ y. slice_index new y + zeros new ≤ length new in
              let bound = are.small n in
              subst P (sym e) (omega (arith, here, bound, fewer, long))
          | inr ne ↦
              let was : get_or new k 0 ≡ get_or ranks k 0 = other k ne in
              let bound = are.small k in
              omega (arith, was, bound, fewer, long)
        ];
      };
      more = omega (arith, fewer);
    }

-- nothing leads from the node to a ranked one
pub none_found : (leads : ℕ → ℕ → ℕ → Type 0) (target : ℕ) (ranks : List ℕ) (node below : ℕ) → AreRanks leads target ranks → length ranks < below
    → ((n : ℕ) → ¬ LeadsTo leads ranks node below n) →
    (m n w : ℕ) → m ≡ node → m < length ranks → leads m n w → 0 < slice_index ranks n → 0 < slice_index ranks m
none_found leads target ranks node below are short none m n w e lt edge ranked =
    let P : ℕ → Type 0 = λ k. leads k n w in
    let bound = are.small n in
    absurd (none n (record { weight = w; edge = subst P e edge; ranked = ranked; falls = omega (arith, bound, short) }))
