-- A worked chart: O comes with the second of A and B, and R begins anew.
use Rattle.std.proofs.Common.{◌≡◌, ℕ, true, false, Bool, Option, Some, None, List, [], ◌∷◌, refl}
use Rattle.std.specs.Prelude.{codes}
use Rattle.sc_values.specs.declared.value.Value.TheVariants as value
use Rattle.sc_values.specs.declared.expression.Expr.{Expr}
use Rattle.sc_values.specs.declared.expression.Expr.TheVariants as expr
use Rattle.core_charts.specs.declared.region.Effect.{Effect}
use Rattle.core_charts.specs.declared.region.Transition.{Transition}
use Rattle.core_charts.specs.declared.region.TransitionKind.{TransitionKind}
use Rattle.core_charts.specs.declared.region.TransitionKind.TheVariants as kind
use Rattle.core_charts.specs.declared.region.Region.{Region}
use Rattle.core_charts.specs.declared.region.State.{State}
use Rattle.core_charts.specs.declared.region.Region.TheViews.{roll-Region, roll-State}
use Rattle.abort_expansion.specs.Flags.{local, strong_flag_name, weak_flag_name, counter_name, preparation_name, continuation_name, monitor_name, watching_name}
use Rattle.abort_expansion.specs.Flags.{first_name}
use Rattle.abort_expansion.specs.Transitions.{go, is_number, is_raised, put, count_down}
use Rattle.abort_expansion.specs.Pieces.{RegionPiece, StatePiece}
use Rattle.abort_expansion.specs.Superstates.{abandoned}
use Rattle.abort_expansion.specs.Expansion.{region_piece, state_piece, all_expanded}

-- ---- the chart

abbrev pub state : List ℕ → Bool → Bool → List RegionPiece → List Transition → StatePiece
state name is_initial is_final regions transitions =
    state_piece (record { name = name; is_initial = is_initial; is_final = is_final; regions = regions; transitions = transitions })

abbrev pub region : List ℕ → List StatePiece → RegionPiece
region name states = region_piece (record { name = name; states = states })

-- it becomes true or false
abbrev truth : ℕ → Bool → Effect
truth x b = record { variable = x; value = expr.Literal (value.Bool b) }

abbrev pub transition : TransitionKind → Option Expr → List Effect → ℕ → Transition
transition k trigger effects target = record { kind = k; immediate = false; trigger = trigger; effects = effects; target = target }

abbrev waits : List ℕ → List ℕ → List ℕ → ℕ → RegionPiece
waits name from to input =
    region name
    (state from true false [] (transition kind.Go (Some (expr.Load input)) [] 1 ∷ [])
    ∷ state to false true [] []
    ∷ [])

abbrev body : RegionPiece
body =
    region (codes "Body")
    (state (codes "Wait") true false (waits (codes "GetA") (codes "WA") (codes "DA") 0 ∷ waits (codes "GetB") (codes "WB") (codes "DB") 1 ∷ [])
    (transition kind.Join None (truth 3 true ∷ []) 1 ∷ [])
    ∷ state (codes "Done") false false [] []
    ∷ [])

abbrev abro : List RegionPiece
abro =
    region (codes "Main")
    (state (codes "ABO") true false (body ∷ []) (transition kind.Strong (Some (expr.Load 2)) (truth 3 false ∷ []) 0 ∷ []) ∷ []) ∷ []

-- ---- its core chart

abbrev pub core_state : List ℕ → Bool → Bool → List Region → List Transition → State
core_state name is_initial is_final regions transitions =
    roll-State (record { name = name; is_initial = is_initial; is_final = is_final; regions = regions; transitions = transitions })

abbrev pub core_region : List ℕ → List State → Region
core_region name states = roll-Region (record { name = name; states = states })

abbrev pub join : ℕ → Transition
join target = transition kind.Join None [] target

-- the flag is variable 4
abbrev checked : Bool → ℕ → Transition
checked immediate left = go immediate (Some (is_raised 4)) [] left

abbrev core_waits : List ℕ → List ℕ → List ℕ → ℕ → Region
core_waits name from to input =
    core_region name
    (core_state from true false [] (checked false 2 ∷ go false (Some (expr.Load input)) [] 1 ∷ [])
    ∷ core_state to false true [] []
    ∷ abandoned
    ∷ [])

abbrev core_body : Region
core_body =
    core_region (codes "Body")
    (core_state (codes "Wait") true false (core_waits (codes "GetA") (codes "WA") (codes "DA") 0 ∷ core_waits (codes "GetB") (codes "WB") (codes "DB") 1 ∷ [])
    (join 1 ∷ [])
    ∷ core_state (continuation_name 2) false false [] (checked true 3 ∷ go true None (truth 3 true ∷ []) 2 ∷ [])
    ∷ core_state (codes "Done") false false [] (checked false 3 ∷ [])
    ∷ abandoned
    ∷ [])

abbrev core_monitor : Region
core_monitor =
    core_region (monitor_name 1)
    (core_state watching_name true false [] (go false (Some (expr.Load 2)) (put 4 1 ∷ []) 1 ∷ [])
    ∷ abandoned
    ∷ [])

abbrev core_abro : List Region
core_abro =
    core_region (codes "Main")
    (core_state (preparation_name 1) true false [] (go true None (put 4 0 ∷ []) 1 ∷ [])
    ∷ core_state (codes "ABO") false false (core_body ∷ core_monitor ∷ []) (join 2 ∷ [])
    ∷ core_state (continuation_name 1) false false [] (go true (Some (is_number 4 1)) (truth 3 false ∷ []) 0 ∷ [])
    ∷ []) ∷ []

abro_expanded : (all_expanded 4 abro).regions ≡ core_abro
abro_expanded = refl

abro_variables : (all_expanded 4 abro).variables ≡ local (strong_flag_name 1) ∷ []
abro_variables = refl

-- the states of the chart are ABO, Wait, WA, DA, WB, DB and Done, from 0 on
abro_states : (all_expanded 4 abro).stands_for ≡
    Some 0 ∷ Some 0
    ∷ Some 1 ∷ Some 2 ∷ Some 3 ∷ None ∷ Some 4 ∷ Some 5 ∷ None ∷ Some 1 ∷ Some 6 ∷ None
    ∷ None ∷ None
    ∷ Some 0 ∷ []
abro_states = refl

-- ---- a weak abort beside a termination, and a region that ends at once

abbrev pub plus : ℕ → Expr → Effect
plus x e = record { variable = x; value = e }

abbrev weakly_aborted : Expr → Expr → Expr → List RegionPiece
weakly_aborted one ten hundred =
    region (codes "M")
    (state (codes "S") true false
    (region (codes "P") (state (codes "a") true false [] (transition kind.Go (Some (expr.Load 0)) (plus 2 one ∷ []) 1 ∷ []) ∷ state
    (codes "b") false true [] [] ∷ [])
    ∷ region (codes "Q") (state (codes "c") true true [] [] ∷ [])
    ∷ [])
    (transition kind.Weak (Some (expr.Load 1)) (plus 2 ten ∷ []) 1 ∷ transition kind.Join None (plus 2 hundred ∷ []) 1 ∷ [])
    ∷ state (codes "T") false false [] []
    ∷ []) ∷ []

-- the flag is variable 3, the counter 4
abbrev core_weakly_aborted : Expr → Expr → Expr → List Region
core_weakly_aborted one ten hundred =
    core_region (codes "M")
    (core_state (preparation_name 1) true false [] (go true None (put 3 0 ∷ put 4 2 ∷ []) 1 ∷ [])
    ∷ core_state (codes "S") false false
    (core_region (codes "P")
    (core_state (codes "a") true false [] (go false (Some (expr.Load 0)) (plus 2 one ∷ count_down 4 ∷ []) 1 ∷ go true (Some (is_raised 3)) [] 2 ∷ [])
    ∷ core_state (codes "b") false true [] []
    ∷ abandoned
    ∷ [])
    ∷ core_region (codes "Q")
    (core_state first_name true false [] (go true None (count_down 4 ∷ []) 1 ∷ [])
    ∷ core_state (codes "c") false true [] []
    ∷ abandoned
    ∷ [])
    ∷ core_region (monitor_name 1)
    (core_state watching_name true false [] (go false (Some (expr.Load 1)) (put 3 1 ∷ []) 1 ∷ go true (Some (is_number 4 0)) [] 1 ∷ [])
    ∷ abandoned
    ∷ [])
    ∷ [])
    (join 2 ∷ [])
    ∷ core_state (continuation_name 1) false false [] (go true (Some (is_number 3 1)) (plus 2 ten ∷ []) 3 ∷ go true None (plus 2 hundred ∷ []) 3 ∷ [])
    ∷ core_state (codes "T") false false [] []
    ∷ []) ∷ []

weakly_aborted_expanded : (one ten hundred : Expr) → (all_expanded 3 (weakly_aborted one ten hundred)).regions ≡ core_weakly_aborted one ten hundred
weakly_aborted_expanded one ten hundred = refl

weakly_aborted_variables : (one ten hundred : Expr) → (all_expanded 3 (weakly_aborted one ten hundred)).variables
    ≡ local (weak_flag_name 1) ∷ local (counter_name 1) ∷ []
weakly_aborted_variables one ten hundred = refl

-- the states of the chart are S, a, b, c and T
weakly_aborted_states : (one ten hundred : Expr) → (all_expanded 3 (weakly_aborted one ten hundred)).stands_for ≡
    Some 0 ∷ Some 0
    ∷ Some 1 ∷ Some 2 ∷ None ∷ Some 3 ∷ Some 3 ∷ None
    ∷ None ∷ None
    ∷ Some 0 ∷ Some 4 ∷ []
weakly_aborted_states one ten hundred = refl
