-- Where the candidates do not conflict, no two nodes do.
use Rattle.std.proofs.Common.{ℕ, ◌≡◌, ◌<◌, ◌≤◌, ◌+◌, ◌⊎◌, inl, inr, true, false, Option, Some, None, List, [], ◌∷◌, ◌++◌, length}
use Rattle.std.proofs.Common.{slice_index, sym, ◌∙◌, subst, ap, arith}
use Rattle.std.specs.Prelude.{Contains}
use Rattle.std.proofs.lemmas.Bool.{cases_Bool}
use Rattle.std.proofs.lemmas.List.Elements.{Contains-append_left, Contains-push, Contains-push_cases, Contains-get_or}
use Rattle.sc_values.specs.declared.value.Value.{Value}
use Rattle.sc_values.specs.Access.{Access, Writing, Init, Inits, Clash, two_inits, two_updates, same_value, same_literal, one_literal}
use Rattle.sc_values.proofs.Literals.{value_from_same, clash_turned}
use Rattle.sc_values.proofs.Merge.{one_combination}
use Rattle.sc_graph.specs.Program.{Program, owner_of}
use Rattle.sc_graph.specs.Threads.{ConcurrentNodes, AreConcurrent}
use Rattle.sc_graph.specs.Accesses.{accesses}
use Rattle.sc_graph.specs.Valid.{IsFormed}
use Rattle.sc_graph.proofs.Formed.{concurrent_swapped, never_own}
use Rattle.program_edges.specs.Users.{InitsAt, UpdatesAt, Lists}
use Rattle.program_edges.specs.Inside.NoConflicts.{NoneConflict}
use Rattle.program_edges.specs.Inside.Candidates.{AreAlike, SameThread, IsCovered, by_one, by_two, IsKept, added, left_out, Disagree, IsStoodFor, StandFor}
use Rattle.program_edges.proofs.Variables.{of_each}

concurrent_turned : (p : Program) (m n : ℕ) → ConcurrentNodes p m n → ConcurrentNodes p n m
concurrent_turned p m n c = record {
  first = c.second;
  second = c.first;
  first_owner = c.second_owner;
  second_owner = c.first_owner;
  concurrent = concurrent_swapped p c.first c.second c.concurrent;
}

turned : (p : Program) (m n : ℕ) → Disagree p m n → Disagree p n m
turned p m n d = record { concurrent = concurrent_turned p m n d.concurrent; clash = clash_turned (accesses p m) (accesses p n) d.clash }

moved : (p : Program) (m b y : ℕ) → SameThread p b m → ConcurrentNodes p m y → ConcurrentNodes p b y
moved p m b y same c = record {
  first = c.first;
  second = c.second;
  first_owner = same ∙ c.first_owner;
  second_owner = c.second_owner;
  concurrent = c.concurrent;
}

-- literals

same_through : (v u w : Option Value) → same_literal v u ≡ true → same_literal u w ≡ true → same_literal v w ≡ true
same_through (Some v) (Some u) (Some w) a b = let e : v ≡ u = value_from_same v u a in let P : Value → Type 0 = λ k. same_value k w ≡ true in subst P (sym e) b
same_through (Some v) (Some u) None a b = b
same_through (Some v) None w a b = absurd (cc)
same_through None u w a b = absurd (cc)

-- of two literals that are not one, one is not one with a third
unlike_third : (v u w : Option Value) → same_literal v w ≡ false → (same_literal v u ≡ false) ⊎ (same_literal u w ≡ false)
unlike_third v u w apart = elim (cases_Bool (same_literal v u)) [
  | inr no_first ↦ inl no_first
  | inl first ↦ elim (cases_Bool (same_literal u w)) [
    | inr no_second ↦ inr no_second
    | inl second ↦ absurd (let e = same_through v u w first second in cc)
  ]
]

init_third : (a b c : Access) (x : ℕ) (i : Inits a x) (j : Inits b x) (k : Inits c x) → one_literal a.writes c.writes ≡ false → Clash a b ⊎ Clash b c
init_third a b c x i j k apart =
    let P : Writing → Writing → Type 0 = λ v w. one_literal v w ≡ false in
    let ac : same_literal i.0 k.0 ≡ false = sym (pair i.1 k.1) ∙ apart in
    elim (unlike_third i.0 j.0 k.0 ac) [
      | inl e ↦ inl (two_inits x i j (pair i.1 j.1 ∙ e))
      | inr e ↦ inr (two_inits x j k (pair j.1 k.1 ∙ e))
    ]
  where
    pair : {v w : Writing} {s t : Option Value} → v ≡ Init x s → w ≡ Init x t → one_literal v w ≡ same_literal s t
    pair {v} {w} {s} {t} e f = ap (λ z. one_literal z w) e ∙ ap (λ z. one_literal (Init x s) z) f

one_variable : (a : Access) (x y : ℕ) → Inits a x → Inits a y → y ≡ x
one_variable a x y i j = let e = i.1 in let f = j.1 in cc

-- of two inits of a variable that clash, one clashes with each third
pub inits_third : (p : Program) (x k m n : ℕ) → InitsAt p x k → InitsAt p x m → InitsAt p x n → Clash (accesses p k) (accesses p n)
    → Clash (accesses p k) (accesses p m) ⊎ Clash (accesses p m) (accesses p n)
inits_third p x k m n ik im in' (two_inits y i j apart) = init_third (accesses p k) (accesses p m) (accesses p n) x ik im in' apart
inits_third p x k m n ik im in' (two_updates y f g u v ne) = absurd (let e = ik.1 in cc)

pub inits_alike : (p : Program) (x : ℕ) (nodes : List ℕ) → Lists nodes (InitsAt p x) → AreAlike p nodes
inits_alike p x nodes l = record { apart = λ k m n ck cm cn clash. inits_third p x k m n (l.only k ck) (l.only m cm) (l.only n cn) clash }

-- and so of two updates
pub updates_third : (p : Program) (x k m n : ℕ) → UpdatesAt p x k → UpdatesAt p x m → UpdatesAt p x n → Clash (accesses p k) (accesses p n)
    → Clash (accesses p k) (accesses p m) ⊎ Clash (accesses p m) (accesses p n)
updates_third p x k m n uk um un (two_inits y i j apart) = absurd (let e = i.1 in let f = uk.1 in cc)
updates_third p x k m n uk um un (two_updates y f g u v ne) = elim (one_combination uk.0 um.0) [
  | inr apart ↦ inl (two_updates x uk.0 um.0 uk.1 um.1 apart)
  | inl same ↦ inr (two_updates x um.0 un.0 um.1 un.1 (λ e.
      let ku = uk.1 in let nu = un.1 in
      let first : f ≡ uk.0 = cc in
      let second : g ≡ un.0 = cc in
      ne (first ∙ (same ∙ (e ∙ sym second)))))
]

pub updates_alike : (p : Program) (x : ℕ) (nodes : List ℕ) → Lists nodes (UpdatesAt p x) → AreAlike p nodes
updates_alike p x nodes l = record { apart = λ k m n ck cm cn clash. updates_third p x k m n (l.only k ck) (l.only m cm) (l.only n cn) clash }

-- a node that is covered is stood for
covered : (p : Program) (nodes kept : List ℕ) (n : ℕ) → AreAlike p nodes → ((k : ℕ) → Contains kept k → Contains nodes k) → Contains nodes n
    → IsCovered p kept n → IsStoodFor p nodes kept n
covered p nodes kept n alike only among (by_one b c same none) = record {
  each = λ y cy d. elim (alike.apart n b y among (only b c) cy d.clash) [
    | inl clash ↦ absurd (none (clash_turned (accesses p n) (accesses p b) clash))
    | inr clash ↦ (b, c, record { concurrent = moved p n b y same d.concurrent; clash = clash })
  ];
}
covered p nodes kept n alike only among (by_two a b ca cb same_a same_b clash) = record {
  each = λ y cy d. elim (alike.apart a y b (only a ca) cy (only b cb) clash) [
    | inl first ↦ (a, ca, record { concurrent = moved p n a y same_a d.concurrent; clash = first })
    | inr second ↦ (b, cb, record { concurrent = moved p n b y same_b d.concurrent; clash = clash_turned (accesses p y) (accesses p b) second })
  ];
}

below_or_at : (k i : ℕ) → k < i + 1 → (k < i) ⊎ (k ≡ i)
below_or_at k i lt = grind arith

pub stand_none : (p : Program) (nodes : List ℕ) → StandFor p nodes [] 0
stand_none p nodes = record { only = λ n c. absurd (let lt = c.1 in omega (arith, lt)); each = λ k lt. absurd (omega (arith, lt)) }

pub stand_covered : (p : Program) (nodes kept : List ℕ) (i : ℕ) → AreAlike p nodes → i < length nodes → StandFor p nodes kept i
    → IsCovered p kept (slice_index nodes i) → StandFor p nodes kept (i + 1)
stand_covered p nodes kept i alike lt s c = record {
  only = s.only;
  each = λ k below. elim (below_or_at k i below) [
    | inl less ↦ s.each k less
    | inr same ↦ (let P : ℕ → Type 0 = λ j. IsStoodFor p nodes kept (slice_index nodes j) in
        subst P (sym same) (covered p nodes kept (slice_index nodes i) alike s.only (Contains-get_or nodes i 0 lt) c))
  ];
}

pub stand_kept : (p : Program) (nodes kept : List ℕ) (i : ℕ) → i < length nodes → StandFor p nodes kept i
    → StandFor p nodes (kept ++ slice_index nodes i ∷ []) (i + 1)
stand_kept p nodes kept i lt s =
    let node : ℕ = slice_index nodes i in
    record {
      only = λ n c. elim (Contains-push_cases kept node n c) [
        | inl before ↦ s.only n before
        | inr same ↦ (let P : ℕ → Type 0 = λ k. Contains nodes k in subst P same (Contains-get_or nodes i 0 lt))
      ];
      each = λ k below. elim (below_or_at k i below) [
        | inl less ↦ record { each = λ y cy d. let w = (s.each k less).each y cy d in (w.0, Contains-append_left kept (node ∷ []) w.0 w.1, w.2) }
        | inr same ↦ (let P : ℕ → Type 0 = λ j. IsStoodFor p nodes (kept ++ node ∷ []) (slice_index nodes j) in
            subst P (sym same) (record { each = λ y cy d. (node, Contains-push kept node, d) }))
      ];
    }

pub stand_more : (p : Program) (nodes old new : List ℕ) (i : ℕ) → AreAlike p nodes → i < length nodes → StandFor p nodes old i
    → IsKept p old new (slice_index nodes i) → StandFor p nodes new (i + 1)
stand_more p nodes old new i alike lt s (added e) = let P : List ℕ → Type 0 = λ xs. StandFor p nodes xs (i + 1) in
    subst P (sym e) (stand_kept p nodes old i lt s)
stand_more p nodes old new i alike lt s (left_out e c) = let P : List ℕ → Type 0 = λ xs. StandFor p nodes xs (i + 1) in
    subst P (sym e) (stand_covered p nodes old i alike lt s c)

apart_or_same : (a b : ℕ) → (a < b) ⊎ ((b < a) ⊎ (a ≡ b))
apart_or_same a b = grind arith

pub stand_all : (p : Program) (nodes kept : List ℕ) (i : ℕ) → IsFormed p → length nodes ≤ i → StandFor p nodes kept i → NoneConflict p kept
    → NoneConflict p nodes
stand_all p nodes kept i formed le s none m n cm cn w =
    let stood : (k : ℕ) → Contains nodes k → IsStoodFor p nodes kept k = of_each nodes (λ k. IsStoodFor p nodes kept k)
    (λ k lt. s.each k (omega (arith, lt, le))) in
    let first = (stood m cm).each n cn (record { concurrent = w.concurrent; clash = w.clash }) in
    let second = (stood n cn).each first.0 (s.only first.0 first.1) (turned p first.0 n first.2) in
    disagree second.0 first.0 second.1 first.1 second.2
  where
    disagree : (a b : ℕ) → Contains kept a → Contains kept b → Disagree p a b → ⊥
    disagree a b ca cb d = elim (apart_or_same a b) [
      | inl less ↦ none a b ca cb (record { in_order = less; concurrent = d.concurrent; clash = d.clash })
      | inr more ↦ elim more [
        | inl less ↦ (let t = turned p a b d in none b a cb ca (record { in_order = less; concurrent = t.concurrent; clash = t.clash }))
        | inr same ↦ own a b same d.concurrent
      ]
    ]
      where
        own : (a b : ℕ) → a ≡ b → ConcurrentNodes p a b → ⊥
        own a b same c =
            let P : ℕ → Type 0 = λ k. owner_of p k ≡ Some c.second in
            let e : owner_of p a ≡ Some c.second = subst P (sym same) c.second_owner in
            let f = c.first_owner in
            let threads : c.first ≡ c.second = cc in
            let Q : ℕ → Type 0 = λ t. AreConcurrent p c.first t in
            never_own p formed c.first (subst Q (sym threads) c.concurrent)
