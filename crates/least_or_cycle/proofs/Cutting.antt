-- Where no cycle goes through a node, there is a cut there; the sum of the cuts ranks all nodes.
use Rattle.std.proofs.Common.{ℕ, ◌≡◌, ◌<◌, ◌≤◌, ◌+◌, ◌-◌, ◌⊎◌, inl, inr, List, length, sym, subst, arith}
use Rattle.std.specs.Prelude.{slice_index}
use Rattle.least_or_cycle.specs.Walks.{HasRanks, LeadsStrictlyTo}
use Rattle.least_or_cycle.specs.Inside.Ranking.{AreRanks, AreComplete, IsCut, AreCuts}

-- 1 where there is a rank
mark : List ℕ → ℕ → ℕ
mark ranks n = 1 - (1 - slice_index ranks n)

pub cut : (leads : ℕ → ℕ → ℕ → Type 0) (count target : ℕ) (ranks : List ℕ) → length ranks ≡ count → AreRanks leads target ranks → AreComplete leads ranks →
    ((n : ℕ) → ¬ LeadsStrictlyTo leads ranks target n) → IsCut leads count target
unfolding mark
cut leads count target ranks long are whole none = record {
  table = mark ranks;
  level = λ m n w lt edge. level m n (λ ranked. whole.complete m n w (omega (arith, lt, long)) edge ranked);
  falls = λ n w edge strict. falls n (λ ranked. none n (record { weight = w; edge = edge; strict = strict; ranked = ranked })) are.first;
  small = λ n. omega arith;
}
  where
    zero_or_not : (a : ℕ) → (a ≡ 0) ⊎ (0 < a)
    zero_or_not a = grind arith

    level : (m n : ℕ) → (0 < slice_index ranks n → 0 < slice_index ranks m) → 1 - (1 - slice_index ranks n) ≤ 1 - (1 - slice_index ranks m)
    level m n h = elim (zero_or_not (slice_index ranks n)) [ inl e ↦ omega (arith, e) | inr lt ↦ (let k = h lt in omega (arith, k)) ]

    falls : (n : ℕ) → ¬ (0 < slice_index ranks n) → slice_index ranks target ≡ 1 → 1 + (1 - (1 - slice_index ranks n)) ≤ 1 - (1 - slice_index ranks target)
    falls n h first = elim (zero_or_not (slice_index ranks n)) [ inl e ↦ omega (arith, e, first) | inr lt ↦ absurd (h lt) ]

pub cuts_none : (leads : ℕ → ℕ → ℕ → Type 0) (count : ℕ) → AreCuts leads count 0
cuts_none leads count = record {
  table = λ n. 0;
  level = λ m n w lt edge. omega arith;
  falls = λ m n w lt edge strict. absurd (omega (arith, lt));
  small = λ n. omega arith;
}

less_or_same : (m bound : ℕ) → m < bound + 1 → (m < bound) ⊎ (m ≡ bound)
less_or_same m bound lt = grind arith

pub cuts_more : (leads : ℕ → ℕ → ℕ → Type 0) (count bound : ℕ) → bound < count → AreCuts leads count bound → IsCut leads count bound
    → AreCuts leads count (bound + 1)
cuts_more leads count bound within cuts one = record {
  table = λ n. cuts.table n + one.table n;
  level = λ m n w lt edge. let a = cuts.level m n w lt edge in let b = one.level m n w lt edge in omega (arith, a, b);
  falls = λ m n w lt edge strict. elim (less_or_same m bound lt) [
    | inl less ↦ (let a = cuts.falls m n w less edge strict in let b = one.level m n w (omega (arith, less, within)) edge in omega (arith, a, b))
    | inr same ↦ (let P : ℕ → Type 0 = λ k. leads k n w in
        let here : leads bound n w = subst P same edge in
        let a = cuts.level bound n w within here in
        let b = one.falls n w here strict in
        let Q : ℕ → Type 0 = λ k. 1 + (cuts.table n + one.table n) ≤ cuts.table k + one.table k in
        subst Q (sym same) (omega (arith, a, b)))
  ];
  small = λ n. let a = cuts.small n in let b = one.small n in omega (arith, a, b);
}

pub cuts_rank : (leads : ℕ → ℕ → ℕ → Type 0) (count : ℕ) → ((m n w : ℕ) → leads m n w → w ≤ 1) → AreCuts leads count count → HasRanks leads count
cuts_rank leads count light cuts = record {
  rank = cuts.table;
  keeps = record { each = λ m lt. record { falls = λ n w edge. along m n w lt edge } };
  small = record { each = λ n lt. cuts.small n };
}
  where
    zero_or_not : (a : ℕ) → (a ≡ 0) ⊎ (0 < a)
    zero_or_not a = grind arith

    along : (m n w : ℕ) → m < count → leads m n w → w + cuts.table n ≤ cuts.table m
    along m n w lt edge =
        let most = light m n w edge in
        elim (zero_or_not w) [
          | inl e ↦ (let a = cuts.level m n w lt edge in omega (arith, a, e))
          | inr strict ↦ (let a = cuts.falls m n w lt edge strict in omega (arith, a, most))
        ]
