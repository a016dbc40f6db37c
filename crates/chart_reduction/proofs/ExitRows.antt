-- A worked piece: the exit actions of an oven. Its region Duty is in Heat, which turns something off as it is left, or in
-- Rest; and it is inside On, which does something as it is left itself, by two transitions to Off.
use Rattle.std.proofs.Common.{◌≡◌, ℕ, pos, true, false, Bool, Some, None, List, [], ◌∷◌, refl}
use Rattle.std.specs.Prelude.{codes}
use Rattle.sc_values.specs.declared.value.Value.TheVariants as value
use Rattle.sc_values.specs.declared.operator.BinaryOperator.TheVariants as operator
use Rattle.sc_values.specs.declared.expression.Expr.{Expr}
use Rattle.sc_values.specs.declared.expression.Expr.TheVariants as expr
use Rattle.core_charts.specs.declared.region.Effect.{Effect}
use Rattle.core_charts.specs.declared.region.Transition.{Transition}
use Rattle.core_charts.specs.declared.region.TransitionKind.{TransitionKind}
use Rattle.core_charts.specs.declared.region.TransitionKind.TheVariants as kind
use Rattle.extended_charts.specs.declared.extended.ExtendedRegion.{ExtendedRegion}
use Rattle.extended_charts.specs.declared.extended.ExtendedState.{ExtendedState}
use Rattle.extended_charts.specs.declared.extended.ExtendedRegion.TheViews.{roll-ExtendedState}
use Rattle.sc_text.specs.MadeNames.{numbered}
use Rattle.extended_charts.specs.Making.{always, made_state, region}
use Rattle.chart_reduction.specs.Exits.{LeftRegion, LeftState, region_step, state_step, all_behind}

abbrev taken : TransitionKind → Expr → List Effect → (target : ℕ) → Transition
taken k trigger effects target =
    record { kind = k; immediate = false; trigger = Some trigger; effects = effects; target = target }

-- ---- as written

abbrev heat : Expr → Effect → LeftState
heat e off = state_step (record {
  name = codes "Heat";
  is_own = true;
  is_initial = true;
  is_final = false;
  entry = [];
  exit = off ∷ [];
  during = [];
  regions = [];
  transitions = taken kind.Go e [] 1 ∷ [];
})

abbrev rest : Expr → LeftState
rest e = state_step (record {
  name = codes "Rest";
  is_own = true;
  is_initial = false;
  is_final = false;
  entry = [];
  exit = [];
  during = [];
  regions = [];
  transitions = taken kind.Go e [] 0 ∷ [];
})

abbrev duty : Expr → Effect → LeftRegion
duty e off = region_step (record { name = codes "Duty"; states = heat e off ∷ rest e ∷ [] })

abbrev on : (e f : Expr) → (off runs last : Effect) → LeftState
on e f off runs last = state_step (record {
  name = codes "On";
  is_own = true;
  is_initial = false;
  is_final = false;
  entry = [];
  exit = runs ∷ [];
  during = [];
  regions = duty e off ∷ [];
  transitions = taken kind.Strong e [] 0 ∷ taken kind.Weak f (last ∷ []) 0 ∷ [];
})

-- ---- as reduced: variable 5 notes where Duty is, and behind On stand states from place 2 on

abbrev notes : (number : ℕ) → Effect
notes number = record { variable = 5; value = expr.Literal (value.Int (pos number)) }

abbrev simple : List ℕ → Bool → List Effect → List Transition → ExtendedState
simple name is_initial entry transitions = roll-ExtendedState (record {
  name = name;
  is_own = true;
  is_initial = is_initial;
  is_final = false;
  entry = entry;
  exit = [];
  during = [];
  regions = [];
  transitions = transitions;
})

abbrev left_duty : Expr → Effect → ExtendedRegion
left_duty e off = region (codes "Duty")
    (simple (codes "Heat") true (notes 1 ∷ []) (taken kind.Go e (off ∷ notes 0 ∷ []) 1 ∷ [])
    ∷ simple (codes "Rest") false [] (taken kind.Go e [] 0 ∷ []) ∷ [])

noted_in_duty : (e : Expr) (off : Effect) → (duty e off).made (Some 5) 5 ≡ left_duty e off
noted_in_duty e off = refl

-- a region of the chart does not note where it is
not_noted : (e : Expr) (off : Effect) → (duty e off).made None 5 ≡ region (codes "Duty")
    (simple (codes "Heat") true [] (taken kind.Go e (off ∷ []) 1 ∷ []) ∷ simple (codes "Rest") false [] (taken kind.Go e [] 0 ∷ []) ∷ [])
not_noted e off = refl

abbrev leave : (place : ℕ) → List Transition → ExtendedState
leave place transitions = made_state (numbered (codes "leave__") place) false [] transitions

abbrev in_heat : Expr
in_heat = expr.Binary operator.Equal (expr.Load 5) (expr.Literal (value.Int (pos 1)))

-- at once, where Duty is in Heat
abbrev turn_off : Effect → (target : ℕ) → Transition
turn_off off target =
    record { kind = kind.Go; immediate = true; trigger = Some in_heat; effects = off ∷ notes 0 ∷ []; target = target }

led_from_on : (e f : Expr) (off runs last : Effect) → (on e f off runs last).made None 1 5 2 ≡ roll-ExtendedState (record {
  name = codes "On";
  is_own = true;
  is_initial = false;
  is_final = false;
  entry = [];
  exit = [];
  during = [];
  regions = left_duty e off ∷ [];
  transitions = taken kind.Strong e [] 2 ∷ taken kind.Weak f [] 4 ∷ [];
})
led_from_on e f off runs last = refl

behind_on : (e f : Expr) (off runs last : Effect) → all_behind None 5 2 (on e f off runs last ∷ []) ≡
    leave 2 (turn_off off 3 ∷ always true [] 3 ∷ []) ∷ leave 3 (always true (runs ∷ []) 0 ∷ [])
    ∷ leave 4 (turn_off off 5 ∷ always true [] 5 ∷ []) ∷ leave 5 (always true (runs ∷ last ∷ []) 0 ∷ []) ∷ []
behind_on e f off runs last = refl
