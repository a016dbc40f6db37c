-- The new initial state of a region, and its abandoned state.
use Rattle.std.proofs.Common.{◌≡◌, ℕ, ◌+◌, Bool, true, false}
use Rattle.std.proofs.Common.{Option, Some, None, List, [], ◌∷◌, ◌++◌, length, slice_get}
use Rattle.std.proofs.Common.{refl, ap, arith}
use Rattle.core_charts.specs.declared.region.State.{State}
use Rattle.chart_machine.specs.declared.standing.Standing.TheVariants as at
use Rattle.chart_machine.specs.declared.table.Table.{Table}
use Rattle.chart_machine.specs.declared.table.TablePosition.{TablePosition}
use Rattle.chart_machine.specs.Table.{Subtree, state_at, states_in}
use Rattle.chart_machine.specs.Table.{state_numbers}
use Rattle.chart_machine.specs.Steps.{to}
use Rattle.chart_machine_laws.specs.Tree.{holder}
use Rattle.chart_machine_laws.proofs.RowsOfSubtrees.{AllSized}
use Rattle.chart_machine_laws.proofs.TableTrees.{NoneInitial, OnceInitial}
use Rattle.scl_graph_laws.proofs.Segments.{StandAt}
use Rattle.abort_expansion.specs.Flags.{one, abandoned_name, first_name}
use Rattle.abort_expansion.specs.Transitions.{go, on, count_down}
use Rattle.abort_expansion.specs.Expansion.{new_initial, left_behind}
use Rattle.abort_expansion_laws.proofs.InRegionRows.{InRegionAt}
use Rattle.abort_expansion_laws.proofs.Walked.{Range, range_none, range_one}
use Rattle.abort_expansion_laws.proofs.Walks.{pieces_of, FirstInitial}
use Rattle.abort_expansion_laws.specs.CoreRows.{own, simple_row}
use Rattle.abort_expansion_laws.proofs.WalkSimple.{one_row, one_sized, one_begins, one_state}

-- ---- the new initial state, and the abandoned one

module _ (counter : Option ℕ) (target number : ℕ) where
  abbrev pub anew_states : Bool → List State
  anew_states anew = (new_initial anew counter target number).states

  pub new_sized : (anew : Bool) → AllSized (pieces_of (anew_states anew))
  new_sized true = (one_sized first_name true false (go true None (on counter count_down) target ∷ []), tt)
  new_sized false = tt

  pub new_many : (anew : Bool) → states_in (pieces_of (anew_states anew)) ≡ length (new_initial anew counter target number).stands_for
  new_many true = omega (arith, one_state first_name true false (go true None (on counter count_down) target ∷ []))
  new_many false = refl

  pub new_long : (anew : Bool) → length (anew_states anew) ≡ one anew
  new_long true = refl
  new_long false = refl

  pub new_variables : (anew : Bool) → length (new_initial anew counter target number).variables ≡ 0
  new_variables true = refl
  new_variables false = refl

  pub new_once : (anew : Bool) (ys : List Subtree) → (anew ≡ true → NoneInitial ys) → OnceInitial ys → OnceInitial (pieces_of (anew_states anew) ++ ys)
  new_once true ys none once = (λ e. none refl, once)
  new_once false ys none once = once

  pub new_held : (anew : Bool) (core : Table) (more : List Subtree) (next : ℕ) (b : TablePosition) →
      InRegionAt core (pieces_of (anew_states anew) ++ more) next b →
      Range (λ n. holder core n ≡ b.holder) b.state (b.state + states_in (pieces_of (anew_states anew)))
  new_held true core more next b h =
      range_one (λ n. holder core n ≡ b.holder) b.state (b.state + states_in (pieces_of (anew_states true)))
      (omega (arith, one_state first_name true false (go true None (on counter count_down) target ∷ [])))
      (ap (λ z. z.holder) (one_row first_name true false (go true None (on counter count_down) target ∷ []) core more next b h).states.0)
  new_held false core more next b h = range_none (λ n. holder core n ≡ b.holder) b.state (b.state + 0) (omega arith)

  pub new_does : (anew : Bool) (core : Table) (more : List Subtree) (next : ℕ) (b : TablePosition) →
      InRegionAt core (pieces_of (anew_states anew) ++ more) next b →
      Range (λ n. own core n ≡ go true None (on counter count_down) target ∷ []) b.state (b.state + states_in (pieces_of (anew_states anew)))
  new_does true core more next b h =
      range_one (λ n. own core n ≡ go true None (on counter count_down) target ∷ []) b.state (b.state + states_in (pieces_of (anew_states true)))
      (omega (arith, one_state first_name true false (go true None (on counter count_down) target ∷ [])))
      (ap (λ z. z.transitions) (one_row first_name true false (go true None (on counter count_down) target ∷ []) core more next b h).states.0)
  new_does false core more next b h = range_none (λ n. own core n ≡ go true None (on counter count_down) target ∷ []) b.state (b.state + 0) (omega arith)

  pub new_first : (anew : Bool) → anew ≡ true → FirstInitial (pieces_of (anew_states anew))
  new_first true certain = one_begins first_name true false (go true None (on counter count_down) target ∷ [])
  new_first false certain = absurd cc

  pub new_none : (anew : Bool) → anew ≡ false → NoneInitial (pieces_of (anew_states anew))
  new_none true denied = absurd cc
  new_none false denied = tt

  pub new_row : (anew : Bool) → anew ≡ true → (core : Table) (more : List Subtree) (next : ℕ) (b : TablePosition) →
      InRegionAt core (pieces_of (anew_states anew) ++ more) next b →
      state_at core b.state ≡ simple_row b.holder b.state (go true None (on counter count_down) target ∷ [])
  new_row true certain core more next b h =
      (one_row first_name true false (go true None (on counter count_down) target ∷ []) core more next b h).states.0
  new_row false certain core more next b h = absurd cc

abbrev pub left_states : Bool → List State
left_states has = (left_behind has).states

pub left_sized : (has : Bool) → AllSized (pieces_of (left_states has))
left_sized true = (one_sized abandoned_name false true [], tt)
left_sized false = tt

pub left_many : (has : Bool) → states_in (pieces_of (left_states has)) ≡ length (left_behind has).stands_for
left_many true = omega (arith, one_state abandoned_name false true [])
left_many false = refl

pub left_variables : (has : Bool) → length (left_behind has).variables ≡ 0
left_variables true = refl
left_variables false = refl

pub left_none : (has : Bool) → NoneInitial (pieces_of (left_states has))
left_none true = (one_begins abandoned_name false true [], tt)
left_none false = tt

pub left_held : (has : Bool) (core : Table) (next : ℕ) (b : TablePosition) → InRegionAt core (pieces_of (left_states has)) next b →
    Range (λ n. holder core n ≡ b.holder) b.state (b.state + states_in (pieces_of (left_states has)))
left_held true core next b h =
    range_one (λ n. holder core n ≡ b.holder) b.state (b.state + states_in (pieces_of (left_states true)))
    (omega (arith, one_state abandoned_name false true [])) (ap (λ z. z.holder) (one_row abandoned_name false true [] core [] next b h).states.0)
left_held false core next b h = range_none (λ n. holder core n ≡ b.holder) b.state (b.state + 0) (omega arith)

pub left_bare : (has : Bool) (core : Table) (next : ℕ) (b : TablePosition) → InRegionAt core (pieces_of (left_states has)) next b →
    Range (λ n. own core n ≡ []) b.state (b.state + states_in (pieces_of (left_states has)))
left_bare true core next b h =
    range_one (λ n. own core n ≡ []) b.state (b.state + states_in (pieces_of (left_states true)))
    (omega (arith, one_state abandoned_name false true [])) (ap (λ z. z.transitions) (one_row abandoned_name false true [] core [] next b h).states.0)
left_bare false core next b h = range_none (λ n. own core n ≡ []) b.state (b.state + 0) (omega arith)

pub left_there : (has : Bool) (core : Table) (next : ℕ) (b : TablePosition) (all : List ℕ) (place : ℕ) → has ≡ true →
    InRegionAt core (pieces_of (left_states has)) next b → StandAt all place (state_numbers (pieces_of (left_states has)) b.state) →
    (slice_get all place ≡ Some b.state) × ((state_at core b.state).entered ≡ to b.holder at.Ended ∷ [])
left_there true core next b all place certain h placed =
    (placed.0, ap (λ z. z.entered) (one_row abandoned_name false true [] core [] next b h).states.0)
left_there false core next b all place certain h placed = absurd cc
