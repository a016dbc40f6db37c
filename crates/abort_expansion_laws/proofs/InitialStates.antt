-- What entering a region does is what entering its initial state does.
use Rattle.std.proofs.Common.{◌≡◌, ℕ, ◌+◌, ◌⊎◌, inl, inr, ⊎_elim, Bool, true, false, List, [], ◌∷◌, ◌++◌, map, refl, sym, ap, subst, ◌∙◌, arith}
use Rattle.std.proofs.Common.{if◌then◌else◌}
use Rattle.std.proofs.lemmas.List.{append-nil}
use Rattle.core_charts.specs.declared.region.State.{State}
use Rattle.core_charts.specs.declared.region.Region.TheFolds.{fold_out-State}
use Rattle.chart_machine.specs.declared.table.SubtreeRows.{SubtreeRows}
use Rattle.chart_machine.specs.declared.table.Table.{Table}
use Rattle.chart_machine.specs.declared.table.TablePosition.{TablePosition}
use Rattle.chart_machine.specs.Table.{Subtree, state_at, states_in, rows_of_state_at, in_region, next_behind, past_states}
use Rattle.chart_machine.specs.Table.{region_subtree, state_subtree, subtree_of_state}
use Rattle.chart_machine_laws.proofs.RowsOfSubtrees.{Holds, AllSized}
use Rattle.chart_machine_laws.proofs.TableTrees.{NoneInitial, OnceInitial}
use Rattle.abort_expansion_laws.proofs.InRegionRows.{InRegionAt, first_holds, rest_holds, position_of}
use Rattle.abort_expansion_laws.proofs.Walks.{FirstInitial}

-- the number of the first of these states that is initial
abbrev pub initial_at : List Subtree → ℕ → ℕ
initial_at [] n = n
initial_at (p ∷ pieces) n = if p.is_initial then n else initial_at pieces (n + p.states)

abbrev pub HasInitial : List Subtree → Type 0
HasInitial [] = ⊥
HasInitial (p ∷ pieces) = (p.is_initial ≡ true) ⊎ HasInitial pieces

-- ---- of some states and others behind them

pub has_first : (xs ys : List Subtree) → FirstInitial xs → HasInitial (xs ++ ys)
has_first [] ys h = absurd h
has_first (x ∷ xs) ys h = inl h

pub has_left : (xs ys : List Subtree) → HasInitial xs → HasInitial (xs ++ ys)
has_left [] ys h = absurd h
has_left (x ∷ xs) ys h = ⊎_elim (λ first. inl first) (λ later. inr (has_left xs ys later)) h

pub has_right : (xs ys : List Subtree) → HasInitial ys → HasInitial (xs ++ ys)
has_right [] ys h = h
has_right (x ∷ xs) ys h = inr (has_right xs ys h)

pub at_first : (xs ys : List Subtree) (n : ℕ) → FirstInitial xs → initial_at (xs ++ ys) n ≡ n
at_first [] ys n h = absurd h
at_first (x ∷ xs) ys n h = rw (h) refl

pub at_later : (xs ys : List Subtree) (n : ℕ) → NoneInitial xs → initial_at (xs ++ ys) n ≡ initial_at ys (n + states_in xs)
at_later [] ys n h = ap (initial_at ys) (no_more n)
  where
    no_more : (n : ℕ) → n ≡ n + 0
    no_more n = omega arith
at_later (x ∷ xs) ys n h = rw (h.0) (at_later xs ys (n + x.states) h.1 ∙ ap (initial_at ys) (sum n x.states (states_in xs)))
  where
    sum : (a b c : ℕ) → (a + b) + c ≡ a + (b + c)
    sum a b c = omega arith

-- ---- what is entered

not_entered : (b : Bool) (parts : TablePosition → SubtreeRows) (next : ℕ) (at : TablePosition) → b ≡ false → (rows_of_state_at b parts next at).entered ≡ []
not_entered true parts next at e = absurd cc
not_entered false parts next at e = refl

none_entered : (pieces : List Subtree) (next : ℕ) (at : TablePosition) → NoneInitial pieces → (in_region pieces next at).entered ≡ []
none_entered [] next at none = refl
none_entered (p ∷ pieces) next at none =
    let own : (rows_of_state_at p.is_initial p.parts next at).entered ≡ [] = not_entered p.is_initial p.parts next at none.0 in
    let rest : (in_region pieces (next_behind p next) (past_states p.states at)).entered ≡ [] = none_entered pieces (next_behind p next)
    (past_states p.states at) none.1 in
    rw (own, rest) refl

module _ (k : Table) where
  state_entered : (s : State) (a : TablePosition) → Holds k a ((subtree_of_state s).parts a) →
      ((subtree_of_state s).parts a).entered ≡ (state_at k a.state).entered
  state_entered s a h =
      subst (λ p. Holds k a (p.parts a) → (p.parts a).entered ≡ (state_at k a.state).entered)
      (sym (fold_out-State Subtree Subtree region_subtree state_subtree s))
      (λ holds. sym (ap (λ z. z.entered) holds.states.0)) h

  -- of the states of a region
  pub states_entered : (states : List State) → AllSized (map subtree_of_state states) → (next : ℕ) (a : TablePosition) →
      InRegionAt k (map subtree_of_state states) next a → OnceInitial (map subtree_of_state states) → HasInitial (map subtree_of_state states) →
      (in_region (map subtree_of_state states) next a).entered ≡ (state_at k (initial_at (map subtree_of_state states) a.state)).entered
  states_entered [] sized next a rows once has = absurd has
  states_entered (s ∷ states) sized next a rows once has =
      by_first (subtree_of_state s).is_initial refl (first_holds k (subtree_of_state s) (map subtree_of_state states) next a rows)
      (λ denied.
      states_entered states sized.1 (next_behind (subtree_of_state s) next) (past_states (subtree_of_state s).states a)
      (rest_holds k (subtree_of_state s) (map subtree_of_state states) next a sized.0 once rows) once.1
      (⊎_elim (λ first. let wrong : false ≡ true = sym denied ∙ first in absurd cc) (λ later. later) has))
    where
      by_first : (b : Bool) → (subtree_of_state s).is_initial ≡ b → Holds k (position_of b next a) ((subtree_of_state s).parts (position_of b next a)) →
          (b ≡ false → (in_region (map subtree_of_state states) (next_behind (subtree_of_state s) next) (past_states (subtree_of_state s).states a)).entered ≡
          (state_at k (initial_at (map subtree_of_state states) (a.state + (subtree_of_state s).states))).entered) →
          (rows_of_state_at b (subtree_of_state s).parts next a).entered
          ++ (in_region (map subtree_of_state states) (next_behind (subtree_of_state s) next) (past_states (subtree_of_state s).states a)).entered ≡
          (state_at k (if b then a.state else initial_at (map subtree_of_state states) (a.state + (subtree_of_state s).states))).entered
      by_first true is holds later =
          ap (λ zs. ((subtree_of_state s).parts a).entered ++ zs)
          (none_entered (map subtree_of_state states) (next_behind (subtree_of_state s) next) (past_states (subtree_of_state s).states a) (once.0 is)) ∙
          (append-nil ((subtree_of_state s).parts a).entered ∙ state_entered s a holds)
      by_first false is holds later = later refl
