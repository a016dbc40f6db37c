-- Worked charts of superstates in one another: aborts in aborts, and a termination within a weak abort.
use Rattle.std.proofs.Common.{◌≡◌, ℕ, true, false, Some, None, List, [], ◌∷◌, refl}
use Rattle.std.specs.Prelude.{codes}
use Rattle.sc_values.specs.declared.expression.Expr.{Expr}
use Rattle.sc_values.specs.declared.expression.Expr.TheVariants as expr
use Rattle.core_charts.specs.declared.region.Transition.{Transition}
use Rattle.core_charts.specs.declared.region.TransitionKind.TheVariants as kind
use Rattle.core_charts.specs.declared.region.Region.{Region}
use Rattle.abort_expansion.specs.Flags.{local, strong_flag_name, weak_flag_name, counter_name, preparation_name, continuation_name, monitor_name, watching_name}
use Rattle.abort_expansion.specs.Flags.{first_name}
use Rattle.abort_expansion.specs.Transitions.{go, is_number, is_raised, put, count_down}
use Rattle.abort_expansion.specs.Pieces.{RegionPiece}
use Rattle.abort_expansion.specs.Superstates.{abandoned}
use Rattle.abort_expansion.specs.Expansion.{all_expanded}
use Rattle.abort_expansion.proofs.ExpansionRows.{state, region, transition, plus, core_state, core_region, join}

-- a strong abort inside a superstate with another one
abbrev aborts_in_aborts : Expr → Expr → List RegionPiece
aborts_in_aborts one ten =
    region (codes "M")
    (state (codes "S") true false
    (region (codes "B")
    (state (codes "U") true false
    (region (codes "D") (state (codes "C") true false [] (transition kind.Go None (plus 2 one ∷ []) 0 ∷ []) ∷ []) ∷ [])
    (transition kind.Strong (Some (expr.Load 1)) (plus 2 ten ∷ []) 0 ∷ []) ∷ []) ∷ [])
    (transition kind.Strong (Some (expr.Load 0)) [] 1 ∷ [])
    ∷ state (codes "T") false false [] []
    ∷ []) ∷ []

-- the outer flag is variable 3, the inner one 4
abbrev checked : ℕ → ℕ → Transition
checked x left = go false (Some (is_raised x)) [] left

abbrev core_inner : Expr → Expr → Region
core_inner one ten =
    core_region (codes "B")
    (core_state (preparation_name 2) true false [] (go true None (put 4 0 ∷ []) 1 ∷ [])
    ∷ core_state (codes "U") false false
    (core_region (codes "D")
    (core_state (codes "C") true false [] (checked 3 1 ∷ checked 4 1 ∷ go false None (plus 2 one ∷ []) 0 ∷ []) ∷ abandoned ∷ [])
    ∷ core_region (monitor_name 2)
    (core_state watching_name true false [] (checked 3 1 ∷ go false (Some (expr.Load 1)) (put 4 1 ∷ []) 1 ∷ []) ∷ abandoned ∷ [])
    ∷ [])
    (join 2 ∷ [])
    ∷ core_state (continuation_name 2) false false []
    (go true (Some (is_raised 3)) [] 3 ∷ go true (Some (is_number 4 1)) (plus 2 ten ∷ []) 0 ∷ [])
    ∷ abandoned
    ∷ [])

abbrev core_aborts_in_aborts : Expr → Expr → List Region
core_aborts_in_aborts one ten =
    core_region (codes "M")
    (core_state (preparation_name 1) true false [] (go true None (put 3 0 ∷ []) 1 ∷ [])
    ∷ core_state (codes "S") false false
    (core_inner one ten
    ∷ core_region (monitor_name 1) (core_state watching_name true false [] (go false (Some (expr.Load 0)) (put 3 1 ∷ []) 1 ∷ []) ∷ abandoned ∷ [])
    ∷ [])
    (join 2 ∷ [])
    ∷ core_state (continuation_name 1) false false [] (go true (Some (is_number 3 1)) [] 3 ∷ [])
    ∷ core_state (codes "T") false false [] []
    ∷ []) ∷ []

aborts_in_aborts_expanded : (one ten : Expr) → (all_expanded 3 (aborts_in_aborts one ten)).regions ≡ core_aborts_in_aborts one ten
aborts_in_aborts_expanded one ten = refl

aborts_in_aborts_variables : (one ten : Expr) → (all_expanded 3 (aborts_in_aborts one ten)).variables
    ≡ local (strong_flag_name 1) ∷ local (strong_flag_name 2) ∷ []
aborts_in_aborts_variables one ten = refl

-- the states of the chart are S, U, C and T
aborts_in_aborts_states : (one ten : Expr) → (all_expanded 3 (aborts_in_aborts one ten)).stands_for ≡
    Some 0 ∷ Some 0
    ∷ Some 1 ∷ Some 1 ∷ Some 2 ∷ None ∷ None ∷ None ∷ Some 1 ∷ None
    ∷ None ∷ None
    ∷ Some 0 ∷ Some 3 ∷ []
aborts_in_aborts_states one ten = refl

-- a superstate with a termination and no aborts, inside one with a weak abort: it counts
abbrev join_in_weak : Expr → List RegionPiece
join_in_weak one =
    region (codes "M")
    (state (codes "S") true false
    (region (codes "B")
    (state (codes "P") true false (region (codes "Q") (state (codes "q") true true [] [] ∷ []) ∷ []) (transition kind.Join None (plus 1 one ∷ []) 1 ∷ [])
    ∷ state (codes "D") false false [] []
    ∷ []) ∷ [])
    (transition kind.Weak (Some (expr.Load 0)) [] 0 ∷ []) ∷ []) ∷ []

-- the flag is variable 2, the counter 3
abbrev core_join_in_weak : Expr → List Region
core_join_in_weak one =
    core_region (codes "M")
    (core_state (preparation_name 1) true false [] (go true None (put 2 0 ∷ []) 1 ∷ [])
    ∷ core_state (codes "S") false false
    (core_region (codes "B")
    (core_state (preparation_name 2) true false [] (go true None (put 3 1 ∷ []) 1 ∷ [])
    ∷ core_state (codes "P") false false
    (core_region (codes "Q")
    (core_state first_name true false [] (go true None (count_down 3 ∷ []) 1 ∷ []) ∷ core_state (codes "q") false true [] [] ∷ abandoned ∷ []) ∷ [])
    (join 2 ∷ [])
    ∷ core_state (continuation_name 2) false false [] (go true (Some (is_number 3 0)) (plus 1 one ∷ []) 3 ∷ go true None [] 4 ∷ [])
    ∷ core_state (codes "D") false false [] (go true (Some (is_raised 2)) [] 4 ∷ [])
    ∷ abandoned
    ∷ [])
    ∷ core_region (monitor_name 1) (core_state watching_name true false [] (go false (Some (expr.Load 0)) (put 2 1 ∷ []) 1 ∷ []) ∷ abandoned ∷ [])
    ∷ [])
    (join 2 ∷ [])
    ∷ core_state (continuation_name 1) false false [] (go true (Some (is_number 2 1)) [] 0 ∷ [])
    ∷ []) ∷ []

join_in_weak_expanded : (one : Expr) → (all_expanded 2 (join_in_weak one)).regions ≡ core_join_in_weak one
join_in_weak_expanded one = refl

join_in_weak_variables : (one : Expr) → (all_expanded 2 (join_in_weak one)).variables ≡ local (weak_flag_name 1) ∷ local (counter_name 2) ∷ []
join_in_weak_variables one = refl

-- the states of the chart are S, P, q and D
join_in_weak_states : (one : Expr) → (all_expanded 2 (join_in_weak one)).stands_for ≡
    Some 0 ∷ Some 0
    ∷ Some 1 ∷ Some 1 ∷ Some 2 ∷ Some 2 ∷ None ∷ Some 1 ∷ Some 3 ∷ None
    ∷ None ∷ None
    ∷ Some 0 ∷ []
join_in_weak_states one = refl
