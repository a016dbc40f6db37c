-- A worked piece: an oven. Its region Main is in Off, from which one transition leads to On and another one, by history; in On
-- is a region Duty, in Heat or in Rest.
use Rattle.std.proofs.Common.{◌≡◌, ℕ, true, false, Bool, Some, None, List, [], ◌∷◌, refl}
use Rattle.std.specs.Prelude.{codes}
use Rattle.sc_values.specs.declared.operator.BinaryOperator.TheVariants as operator
use Rattle.sc_values.specs.declared.expression.Expr.{Expr}
use Rattle.sc_values.specs.declared.expression.Expr.TheVariants as expr
use Rattle.sc_text.specs.MadeNames.{numbered}
use Rattle.core_charts.specs.declared.region.Effect.{Effect}
use Rattle.core_charts.specs.declared.region.Transition.{Transition}
use Rattle.core_charts.specs.declared.region.TransitionKind.{TransitionKind}
use Rattle.core_charts.specs.declared.region.TransitionKind.TheVariants as kind
use Rattle.chart_reduction.specs.declared.entries.recalls.Kept.TheVariants as kept
use Rattle.extended_charts.specs.declared.extended.ExtendedRegion.{ExtendedRegion}
use Rattle.extended_charts.specs.declared.extended.ExtendedState.{ExtendedState}
use Rattle.extended_charts.specs.declared.extended.ExtendedRegion.TheViews.{roll-ExtendedState}
use Rattle.extended_charts.specs.Making.{copy, always, made_state, region}
use Rattle.extended_charts.specs.Signals.{reset}
use Rattle.chart_reduction.specs.Exits.{set, is_at}
use Rattle.chart_reduction.specs.Histories.{PastRegion, PastState, region_step, state_step, asks}

abbrev taken : TransitionKind → Expr → List Effect → (target : ℕ) → Transition
taken k trigger effects target =
    record { kind = k; immediate = false; trigger = Some trigger; effects = effects; target = target }

-- ---- as written: in Main, of two states, the target 3 is On, by history

abbrev simple_past : List ℕ → Bool → List Transition → PastState
simple_past name is_initial transitions = state_step (record {
  name = name;
  is_own = true;
  is_initial = is_initial;
  is_final = false;
  entry = [];
  exit = [];
  during = [];
  regions = [];
  transitions = transitions;
})

abbrev duty : Expr → PastRegion
duty e = region_step (record {
  name = codes "Duty";
  states = simple_past (codes "Heat") true (taken kind.Go e [] 1 ∷ []) ∷ simple_past (codes "Rest") false (taken kind.Go e [] 0 ∷ []) ∷ [];
})

abbrev on : (e : Expr) → (begun : Effect) → PastState
on e begun = state_step (record {
  name = codes "On";
  is_own = true;
  is_initial = false;
  is_final = false;
  entry = begun ∷ [];
  exit = [];
  during = [];
  regions = duty e ∷ [];
  transitions = taken kind.Strong e [] 0 ∷ [];
})

abbrev main : (e f : Expr) → (begun last : Effect) → PastRegion
main e f begun last = region_step (record {
  name = codes "Main";
  states = simple_past (codes "Off") true (taken kind.Go e (last ∷ []) 1 ∷ taken kind.Go f (last ∷ []) 3 ∷ []) ∷ on e begun ∷ [];
})

-- ---- as reduced: variable 5 is that a transition asks for history, 6 that On was entered by it, and 7 keeps where Duty is

keeps_three : (e f : Expr) (begun last : Effect) → (main e f begun last).kept ≡ kept.Asked ∷ kept.Entered ∷ kept.Last ∷ []
keeps_three e f begun last = refl

abbrev state : List ℕ → Bool → List Effect → List ExtendedRegion → List Transition → ExtendedState
state name is_initial entry regions transitions = roll-ExtendedState (record {
  name = name;
  is_own = true;
  is_initial = is_initial;
  is_final = false;
  entry = entry;
  exit = [];
  during = [];
  regions = regions;
  transitions = transitions;
})

-- Duty goes on in Rest where it was there, and else begins in Heat
abbrev resumed : ExtendedState
resumed = made_state (numbered (codes "resume__") 2) true []
    (record (always true [] 1) { trigger = Some (expr.Binary operator.And (expr.Load 6) (is_at 7 2)) } ∷ always true [] 0 ∷ [])

abbrev past_duty : Expr → ExtendedRegion
past_duty e = region (codes "Duty")
    (state (codes "Heat") false (set 7 1 ∷ []) [] (taken kind.Go e [] 1 ∷ [])
    ∷ state (codes "Rest") false (set 7 2 ∷ []) [] (taken kind.Go e [] 0 ∷ []) ∷ resumed ∷ [])

goes_on : (e f : Expr) (begun last : Effect) → (main e f begun last).made None 5 ≡ region (codes "Main")
    (state (codes "Off") true [] [] (taken kind.Go e (last ∷ []) 1 ∷ taken kind.Go f (last ∷ asks 5 ∷ []) 1 ∷ [])
    ∷ state (codes "On") false (copy 6 5 ∷ reset 5 ∷ begun ∷ []) (past_duty e ∷ []) (taken kind.Strong e [] 0 ∷ []) ∷ [])
goes_on e f begun last = refl

-- in a state to which none leads by history it begins anew, and keeps nothing
begins_anew : (e : Expr) → (duty e).made None 5 ≡ region (codes "Duty")
    (state (codes "Heat") true [] [] (taken kind.Go e [] 1 ∷ []) ∷ state (codes "Rest") false [] [] (taken kind.Go e [] 0 ∷ []) ∷ [])
begins_anew e = refl
