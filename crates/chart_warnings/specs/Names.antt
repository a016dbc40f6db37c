-- Which variables transitions ask for and set, and which transitions stand inside regions.
use Rattle.std.specs.Prelude.{ℕ, Bool, false, not, nat_eq, pos, Option, Some, None, List, [], ◌∷◌, ◌++◌, map, if◌then◌else◌}
use Rattle.std.specs.Ordering.{int_eq}
use Rattle.std.specs.List.{list_any, filter, flat_map}
use Rattle.sc_values.specs.declared.value.Value.{Value}
use Rattle.sc_values.specs.declared.value.Value.TheVariants as value
use Rattle.sc_values.specs.declared.expression.Expr.{Expr}
use Rattle.sc_values.specs.declared.expression.Expr.TheOpen.{Expr-F}
use Rattle.sc_values.specs.declared.expression.Expr.TheOpen as tree
use Rattle.sc_values.specs.declared.expression.Expr.TheViews.{out-Expr}
use Rattle.sc_values.specs.Assignment.{reads, is_read}
use Rattle.core_charts.specs.declared.region.Effect.{Effect}
use Rattle.core_charts.specs.declared.region.Transition.{Transition}
use Rattle.core_charts.specs.declared.region.Region.{Region}
use Rattle.core_charts.specs.declared.region.Region.TheOpen.{Region-F, State-F}
use Rattle.core_charts.specs.declared.region.Region.TheFolds.{fold-Region, fold-State}
use Rattle.core_charts.specs.declared.region.State.{State}
use Rattle.core_charts.specs.Tests.{at_once}

-- ---- variables that an effect names

-- those whose values it needs for another variable
abbrev pub asked_by_effect : Effect → List ℕ
asked_by_effect e = filter (λ x. not (nat_eq e.variable x)) (reads e.value)

abbrev pub set_by_effect : Effect → List ℕ
set_by_effect e = e.variable ∷ []

abbrev pub is_rest_value : Value → Bool
is_rest_value (value.Bool b) = not b
is_rest_value (value.Int n) = int_eq n (pos 0)

-- whether it is the literal `false` or 0
abbrev pub is_rest : Expr-F Expr → Bool
is_rest (tree.Literal v) = is_rest_value v
is_rest other = false

-- it is set to something else than rest
abbrev pub switched_by_effect : Effect → List ℕ
switched_by_effect e = if is_rest (out-Expr e.value) then [] else e.variable ∷ []

-- it is computed from its own value, as a count is
abbrev pub counted_by_effect : Effect → List ℕ
counted_by_effect e = if is_read e.variable e.value then e.variable ∷ [] else []

-- ---- and those that a transition names

abbrev pub asked_by_trigger : Option Expr → List ℕ
asked_by_trigger None = []
asked_by_trigger (Some e) = reads e

abbrev pub asked_by : Transition → List ℕ
asked_by t = asked_by_trigger t.trigger ++ flat_map asked_by_effect t.effects

abbrev pub set_by : Transition → List ℕ
set_by t = flat_map set_by_effect t.effects

abbrev pub switched_by : Transition → List ℕ
switched_by t = flat_map switched_by_effect t.effects

abbrev pub counted_by : Transition → List ℕ
counted_by t = flat_map counted_by_effect t.effects

-- whether one of these transitions names a variable in this way
abbrev pub is_named : (Transition → List ℕ) → List Transition → ℕ → Bool
is_named by transitions x = list_any (nat_eq x) (flat_map by transitions)

-- ---- transitions

abbrev pub joined : List (List Transition) → List Transition
joined [] = []
joined (some ∷ others) = some ++ joined others

-- all of a region, and of a state, with those of what is in it
abbrev pub region_transitions : Region-F (List Transition) (List Transition) → List Transition
region_transitions r = joined r.states

abbrev pub state_transitions : State-F (List Transition) (List Transition) → List Transition
state_transitions s = joined s.regions ++ s.transitions

abbrev pub within_region : Region → List Transition
within_region = fold-Region (List Transition) (List Transition) region_transitions state_transitions

abbrev pub within_state : State → List Transition
within_state = fold-State (List Transition) (List Transition) region_transitions state_transitions

abbrev pub within : List Region → List Transition
within regions = joined (map within_region regions)

-- a state that may be entered with its superstate: the immediate transitions of all that is entered with it
pub record Entry : Type 0 where
  pub is_initial : Bool
  pub transitions : List Transition

abbrev pub when_initial : Entry → List Transition
when_initial s = if s.is_initial then s.transitions else []

abbrev pub entered : List Entry → List Transition
entered [] = []
entered (s ∷ others) = when_initial s ++ entered others

abbrev pub region_entry : Region-F (List Transition) Entry → List Transition
region_entry r = entered r.states

abbrev pub state_entry : State-F (List Transition) Entry → Entry
state_entry s = record { is_initial = s.is_initial; transitions = at_once s.transitions ++ joined s.regions }

abbrev pub entry_of_region : Region → List Transition
entry_of_region = fold-Region (List Transition) Entry region_entry state_entry

abbrev pub entry_of_state : State → Entry
entry_of_state = fold-State (List Transition) Entry region_entry state_entry
