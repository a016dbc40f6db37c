-- A state that the author of a text wrote is told exactly where a state of the chart is active that stands for it.
use Rattle.std.proofs.Common.{ℕ, zero, suc, ◌+◌, ◌≡◌, ◌≢◌, ◌≤◌, ◌<◌, ◌⊎◌, inl, inr, Bool, true, false, Option, Some, None, List, [], ◌∷◌}
use Rattle.std.proofs.Common.{get_or, length, refl, sym, ap, subst, arith, if◌then◌else◌}
use Rattle.std.specs.Prelude.{◌↔◌}
use Rattle.std.specs.List.{Contains}
use Rattle.std.proofs.lemmas.Bool.{cases_eq}
use Rattle.std.proofs.lemmas.List.Elements.{Contains-append_cases, Contains-append_right}
use Rattle.std.proofs.lemmas.Option.{same_Some}
use Rattle.sc_graph.specs.declared.control.Control.{Control}
use Rattle.author_states.specs.Author.{AuthorsStates, author_nodes, author_state}
use Rattle.compiled_charts.proofs.ActiveStates.{IsActiveBehind, active_behind, active_past}
use Rattle.node_states.specs.Active.{is_active, numbers_where}
use Rattle.node_states.specs.StandsFor.{composed}
use Rattle.image_charts.specs.Charts.{NamedStates}
use Rattle.image_charts.specs.Told.{AuthorsAreTold, IsStoodFor, IsTold}
use Rattle.image_charts.specs.Written.{told_by}

-- ---- numbers that are wanted

onto : (b : Bool) (n m : ℕ) (rest : List ℕ) → Contains rest m → Contains (if b then n ∷ rest else rest) m
onto true n m rest h = Contains-append_right (n ∷ []) rest m h
onto false n m rest h = h

first : (b : Bool) (n : ℕ) (rest : List ℕ) → b ≡ true → Contains (if b then n ∷ rest else rest) n
first true n rest is = (0, omega arith, refl)
first false n rest is = absurd cc

-- the only one of a list
only : (n m k : ℕ) → k < 1 → get_or (n ∷ []) k m ≡ m → n ≡ m
only n m zero less is = is
only n m (suc k) less is = absurd (omega (arith, less))

module _ (wanted : ℕ → Bool) where
  first_or_later : (from count m : ℕ) → (from ≡ m) ⊎ (from ≢ m) → wanted m ≡ true
      → (from ≢ m → Contains (numbers_where wanted (suc from) count) m) → Contains (numbers_where wanted from (suc count)) m
  first_or_later from count m (inl same) is later =
      subst (Contains (numbers_where wanted from (suc count))) same
      (first (wanted from) from (numbers_where wanted (suc from) count) (subst (λ k. wanted k ≡ true) (sym same) is))
  first_or_later from count m (inr other) is later = onto (wanted from) from m (numbers_where wanted (suc from) count) (later other)

  among : (from count m : ℕ) → from ≤ m → m < from + count → wanted m ≡ true → Contains (numbers_where wanted from count) m
  among from zero m low high is = absurd (omega (arith, low, high))
  among from (suc count) m low high is =
      first_or_later from count m (cases_eq from m) is (λ other. among (suc from) count m (omega (arith, low, other)) (omega (arith, high)) is)

  in_parts : (from m : ℕ) (rest : List ℕ) → wanted from ≡ true → Contains (from ∷ []) m ⊎ Contains rest m → (Contains rest m → wanted m ≡ true)
      → wanted m ≡ true
  in_parts from m rest is (inl here) later = subst (λ k. wanted k ≡ true) (only from m here.0 here.1 here.2) is
  in_parts from m rest is (inr there) later = later there

  split : (b : Bool) (from m : ℕ) (rest : List ℕ) → wanted from ≡ b → Contains (if b then from ∷ rest else rest) m
      → (Contains rest m → wanted m ≡ true) → wanted m ≡ true
  split true from m rest is h later = in_parts from m rest is (Contains-append_cases (from ∷ []) rest m h) later
  split false from m rest is h later = later h

  is_wanted : (from count m : ℕ) → Contains (numbers_where wanted from count) m → wanted m ≡ true
  is_wanted from zero m h = let none : h.0 < 0 = h.1 in absurd (omega (arith, none))
  is_wanted from (suc count) m h =
      split (wanted from) from m (numbers_where wanted (suc from) count) refl h (is_wanted (suc from) count m)

-- ---- nodes that stand past the chart's states

same_row : (stand nodes : List (Option ℕ)) → author_nodes stand nodes ≡ composed nodes stand
same_row stand [] = refl
same_row stand (None ∷ nodes) = ap (λ ns. None ∷ ns) (same_row stand nodes)
same_row stand (Some n ∷ nodes) = ap (λ ns. author_state stand n ∷ ns) (same_row stand nodes)

-- ---- what is told

module _ (a : AuthorsStates) (own : NamedStates) (c : Control) (m : ℕ) where
  author_stood_for : IsTold (told_by (Some a) own) c m → IsStoodFor (Some a) own c m
  author_stood_for told =
      let on : is_active (author_nodes a.stand own.compiled.nodes) c m ≡ true =
      is_wanted (is_active (author_nodes a.stand own.compiled.nodes) c) 0 (length a.paths) m told in
      let past : is_active (composed own.compiled.nodes a.stand) c m ≡ true =
      subst (λ ns. is_active ns c m ≡ true) (same_row a.stand own.compiled.nodes) on in
      let behind : IsActiveBehind own.compiled.nodes a.stand c m = active_behind own.compiled.nodes a.stand c m past in
      record { state = behind.core_state; active = behind.active; stands = behind.stands_for }

  author_told : m < length a.paths → IsStoodFor (Some a) own c m → IsTold (told_by (Some a) own) c m
  author_told within stood =
      let past : is_active (composed own.compiled.nodes a.stand) c m ≡ true =
      active_past own.compiled.nodes a.stand c m (record { core_state = stood.state; active = stood.active; stands_for = stood.stands }) in
      let on : is_active (author_nodes a.stand own.compiled.nodes) c m ≡ true =
      subst (λ ns. is_active ns c m ≡ true) (sym (same_row a.stand own.compiled.nodes)) past in
      among (is_active (author_nodes a.stand own.compiled.nodes) c) 0 (length a.paths) m (omega arith) (omega (arith, within)) on

own_stood_for : (own : NamedStates) (c : Control) (m : ℕ) → IsTold own c m → IsStoodFor None own c m
own_stood_for own c m told = record {
  state = m;
  active = is_wanted (is_active own.compiled.nodes c) 0 own.compiled.states m told;
  stands = refl;
}

own_told : (own : NamedStates) (c : Control) (m : ℕ) → m < own.compiled.states → IsStoodFor None own c m → IsTold own c m
own_told own c m within stood =
    let same : stood.state ≡ m = same_Some stood.state m stood.stands in
    among (is_active own.compiled.nodes c) 0 own.compiled.states m (omega arith) (omega (arith, within))
    (subst (λ k. is_active own.compiled.nodes c k ≡ true) same stood.active)

told : (authors : Option AuthorsStates) (own : NamedStates) (c : Control) (m : ℕ) → m < (told_by authors own).compiled.states
    → IsTold (told_by authors own) c m ↔ IsStoodFor authors own c m
told None own c m within = (own_stood_for own c m, own_told own c m within)
told (Some a) own c m within = (author_stood_for a own c m, author_told a own c m within)

pub authors_are_told : AuthorsAreTold
authors_are_told = record { told = told }
