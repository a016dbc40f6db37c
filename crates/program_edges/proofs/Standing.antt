-- Lists that stand for the nodes of the least or the greatest number, as they grow.
use Rattle.std.proofs.Common.{ℕ, ◌≡◌, ◌≢◌, ◌<◌, ◌≤◌, ◌+◌, ◌⊎◌, inl, inr, List, [], ◌∷◌, ◌++◌, length, get_or, refl, sym, ◌∙◌, ap, subst, arith}
use Rattle.std.specs.Prelude.{Contains, slice_index, slice_set}
use Rattle.std.proofs.lemmas.List.{get_or_default, get_or-set_same, get_or-set_other, length-set}
use Rattle.std.proofs.lemmas.List.Elements.{Contains-append_left, Contains-get_or, Contains-push, Contains-push_cases}
use Rattle.sc_graph.proofs.Each.{below_or_at}
use Rattle.sc_graph.specs.Program.{Program, owner_of}
use Rattle.sc_graph.specs.Threads.{ConcurrentNodes}
use Rattle.program_edges.specs.declared.extremes.Extreme.{Extreme}
use Rattle.program_edges.specs.declared.extremes.Extreme.TheVariants as extreme
use Rattle.program_edges.specs.Extremes.{IsAsExtreme, StoodFor, StandFor}
use Rattle.program_edges.specs.AlongVariables.{AllFall}
use Rattle.program_edges.specs.Inside.TakingIn.{Beats, TakesIn, OwnedAlike}
use Rattle.program_edges.proofs.Variables.{of_each}

itself : (q : List ℕ) (e : Extreme) (n : ℕ) → IsAsExtreme q e n n
itself q extreme.Least n = omega arith
itself q extreme.Greatest n = omega arith

not_beaten : (q : List ℕ) (e : Extreme) (m n : ℕ) → ¬ Beats q e m n → IsAsExtreme q e n m
not_beaten q extreme.Least m n h = less_or (slice_index q m) (slice_index q n) h
  where
    less_or : (a b : ℕ) → ¬ (a < b) → b ≤ a
    less_or a b h = grind arith
not_beaten q extreme.Greatest m n h = less_or (slice_index q n) (slice_index q m) h
  where
    less_or : (a b : ℕ) → ¬ (a < b) → b ≤ a
    less_or a b h = grind arith

beaten_all : (q : List ℕ) (e : Extreme) (n other m : ℕ) → Beats q e n other → IsAsExtreme q e other m → IsAsExtreme q e n m
beaten_all q extreme.Least n other m b a = omega (arith, a, b)
beaten_all q extreme.Greatest n other m b a = omega (arith, a, b)

pub takes_last : (p : Program) (q : List ℕ) (e : Extreme) (list : List ℕ) (n : ℕ) → TakesIn p q e list (list ++ n ∷ []) n
takes_last p q e list n = record {
  keeps = λ m s. record { by = s.by; among = Contains-append_left list (n ∷ []) s.by s.among; owner = s.owner; extreme = s.extreme };
  gains = record { by = n; among = Contains-push list n; owner = refl; extreme = itself q e n };
  only = λ m c. elim (Contains-push_cases list n m c) [ inl before ↦ inl before | inr same ↦ inr (sym same) ];
}

pub takes_none : (p : Program) (q : List ℕ) (e : Extreme) (list : List ℕ) (at n other : ℕ) → OwnedAlike p list at n other → ¬ Beats q e n other
    → TakesIn p q e list list n
takes_none p q e list at n other alike none = record {
  keeps = λ m s. s;
  gains = record {
    by = other;
    among = (at, alike.within, get_or_default list at other 0 alike.within ∙ alike.there);
    owner = alike.owner;
    extreme = not_beaten q e n other none;
  };
  only = λ m c. inl c;
}

at_place : (list : List ℕ) (at n : ℕ) → at < length list → Contains (slice_set list at n) n
at_place list at n lt = let long = length-set list at n in (at, omega (arith, lt, long), get_or-set_same list at n n lt)

same_or_not : (a b : ℕ) → (a ≡ b) ⊎ (a ≢ b)
same_or_not a b = grind arith

pub takes_place : (p : Program) (q : List ℕ) (e : Extreme) (list : List ℕ) (at n other : ℕ) → OwnedAlike p list at n other → Beats q e n other
    → TakesIn p q e list (slice_set list at n) n
takes_place p q e list at n other alike beats = record {
  keeps = λ m s. elim (same_or_not s.among.0 at) [
    | inl here ↦
        (let was : s.by ≡ other = sym (s.among.2) ∙ ap (λ (k : ℕ). get_or list k s.by) here ∙ get_or_default list at s.by 0 alike.within ∙ alike.there in
        let x : IsAsExtreme q e other m = subst (λ (k : ℕ). IsAsExtreme q e k m) was s.extreme in
        record {
          by = n;
          among = at_place list at n alike.within;
          owner = sym alike.owner ∙ sym (ap (owner_of p) was) ∙ s.owner;
          extreme = beaten_all q e n other m beats x;
        })
    | inr elsewhere ↦ record {
      by = s.by;
      among = (let long = length-set list at n in let lt = s.among.1 in
          (s.among.0, omega (arith, lt, long), get_or-set_other list at s.among.0 n s.by elsewhere ∙ s.among.2));
      owner = s.owner;
      extreme = s.extreme;
    }
  ];
  gains = record { by = n; among = at_place list at n alike.within; owner = refl; extreme = itself q e n };
  only = λ m c. elim (same_or_not c.0 at) [
    | inl here ↦ inr (sym (c.2) ∙ ap (λ (k : ℕ). get_or (slice_set list at n) k m) here ∙ get_or-set_same list at n m alike.within)
    | inr elsewhere ↦ inl
        (let long = length-set list at n in let lt = c.1 in
        (c.0, omega (arith, lt, long), sym (get_or-set_other list at c.0 n m elsewhere) ∙ c.2))
  ];
}

pub owned_so : (p : Program) (m n k : ℕ) → owner_of p k ≡ owner_of p m → ConcurrentNodes p m n → ConcurrentNodes p k n
owned_so p m n k e c = record { first = c.first; second = c.second; first_owner = e ∙ c.first_owner; second_owner = c.second_owner; concurrent = c.concurrent }

pub owned_too : (p : Program) (m n k : ℕ) → owner_of p k ≡ owner_of p n → ConcurrentNodes p m n → ConcurrentNodes p m k
owned_too p m n k e c = record { first = c.first; second = c.second; first_owner = c.first_owner; second_owner = e ∙ c.second_owner; concurrent = c.concurrent }

-- a table falls between all nodes where it falls from those of the least to those of the greatest
pub all_fall : (p : Program) (q : List ℕ) (firsts least seconds greatest : List ℕ) → StandFor p q extreme.Least firsts least
    → StandFor p q extreme.Greatest seconds greatest → AllFall p q least greatest → AllFall p q firsts seconds
all_fall p q firsts least seconds greatest f s fall m n a b =
    let l : StoodFor p q extreme.Least least m = f.each m a in
    let g : StoodFor p q extreme.Greatest greatest n = s.each n b in
    let low : slice_index q l.by ≤ slice_index q m = l.extreme in
    let high : slice_index q n ≤ slice_index q g.by = g.extreme in
    record {
      falls = λ concurrent.
          let between = (fall l.by g.by l.among g.among).falls (owned_too p l.by n g.by g.owner (owned_so p m n l.by l.owner concurrent)) in
          omega (arith, low, high, between);
    }

-- the list stands for the nodes before a place
pub record StandUpTo (p : Program) (q : List ℕ) (e : Extreme) (nodes list : List ℕ) (i : ℕ) : Type 0 where
  pub each : (k : ℕ) → k < i → StoodFor p q e list (get_or nodes k 0)
  pub only : (n : ℕ) → Contains list n → Contains nodes n

pub stand_none : (p : Program) (q : List ℕ) (e : Extreme) (nodes : List ℕ) → StandUpTo p q e nodes [] 0
stand_none p q e nodes = record { each = λ k lt. absurd (omega arith); only = λ n c. let lt = c.1 in absurd (omega arith) }

pub stand_more : (p : Program) (q : List ℕ) (e : Extreme) (nodes old new : List ℕ) (i : ℕ) → i < length nodes → StandUpTo p q e nodes old i
    → TakesIn p q e old new (get_or nodes i 0) → StandUpTo p q e nodes new (i + 1)
stand_more p q e nodes old new i lt s t = record {
  each = λ k less. elim (below_or_at k i less) [
    | inl before ↦ t.keeps (get_or nodes k 0) (s.each k before)
    | inr same ↦ subst (λ (j : ℕ). StoodFor p q e new (get_or nodes j 0)) (sym same) t.gains
  ];
  only = λ n c. elim (t.only n c) [
    | inl before ↦ s.only n before
    | inr same ↦ subst (λ (k : ℕ). Contains nodes k) (sym same) (Contains-get_or nodes i 0 lt)
  ];
}

pub stand_all : (p : Program) (q : List ℕ) (e : Extreme) (nodes list : List ℕ) (i : ℕ) → length nodes ≤ i → StandUpTo p q e nodes list i
    → StandFor p q e nodes list
stand_all p q e nodes list i all s = record {
  each = of_each nodes (StoodFor p q e list) (λ k lt. s.each k (omega arith));
  only = s.only;
}
