-- What the transitions of a core chart do with weak flags: nobody reads one but looks and the thread of the region that holds its superstate; and an effect
-- that sets one raises it, or is made by that thread.
use Rattle.std.proofs.Common.{◌≡◌, ◌≢◌, ℕ, zero, suc, ◌<◌, ◌⊎◌, inl, inr, false, Option, Some, None}
use Rattle.std.proofs.Common.{List, [], ◌∷◌, map, length, slice_get, Contains, refl, sym, ap, subst, ◌∙◌, arith}
use Rattle.std.proofs.lemmas.List.{length-map}
use Rattle.std.proofs.lemmas.Option.{slice_get_within, same_Some}
use Rattle.sc_values.specs.declared.value.Kind.{Kind}
use Rattle.sc_values.specs.declared.value.Kind.TheVariants as of_kind
use Rattle.sc_values.specs.declared.value.Value.{Value}
use Rattle.sc_values.specs.declared.expression.Expr.{Expr}
use Rattle.sc_values.specs.Access.{Reads}
use Rattle.sc_values.specs.Assignment.{reads, assignment_of, access_of_assignment}
use Rattle.sc_values.specs.Operator.{initial_value}
use Rattle.sc_values.proofs.WellKinded.{Gives, AreOf, value_gives}
use Rattle.sc_graph.specs.declared.program.Variable.{Variable}
use Rattle.sc_graph.proofs.AtRest.{kind_of-initial_value}
use Rattle.sc_text.specs.Parts.{IsExpression}
use Rattle.sc_text.proofs.EachItem.{Each}
use Rattle.core_charts.specs.declared.features.Features.TheVariants as features
use Rattle.core_charts.specs.declared.region.Effect.{Effect}
use Rattle.core_charts.specs.declared.region.Transition.{Transition}
use Rattle.core_charts.specs.Chart.{Chart}
use Rattle.core_charts.specs.Rules.{IsChart, IsEffect, kinds_of}
use Rattle.core_charts.specs.Tests.{is_strong, is_weak}
use Rattle.chart_machine.specs.declared.table.Table.{Table}
use Rattle.chart_machine.specs.Steps.{access_of_trigger}
use Rattle.chart_machine.specs.Table.{table}
use Rattle.chart_machine_laws.specs.Tree.{holder}
use Rattle.chart_machine_laws.proofs.LyingIn.{none_in}
use Rattle.chart_machine_laws.proofs.SoundRows.{SoundTest}
use Rattle.abort_expansion.specs.Expansion.{expanded}
use Rattle.abort_expansion.specs.Transitions.{is_number, is_raised, put, count_down}
use Rattle.abort_expansion_laws.specs.CoreRows.{Images, CoreRows}
use Rattle.abort_expansion_laws.proofs.AssignedVariables.{assigned_known}
use Rattle.abort_expansion_laws.proofs.CounterValues.{counted_access}
use Rattle.abort_expansion_laws.proofs.FlagAccess.{put_access, raised_access, number_access}
use Rattle.abort_expansion_laws.proofs.KnownVariables.{known}
use Rattle.abort_expansion_laws.proofs.MoreRows.{opening_rows}
use Rattle.abort_expansion_laws.proofs.Resets.{Apart}
use Rattle.abort_expansion_laws.proofs.Supplying.{tests, tests_at}
use Rattle.abort_expansion_laws.proofs.TicksOfCharts as ticks

-- ---- what is declared has values, and what has a value reads what is declared

at_first : (ks : List Kind) (x : ℕ) (k : Kind) → slice_get ks x ≡ Some k → Gives (slice_get (map initial_value ks) x) k
at_first [] x k is = absurd cc
at_first (j ∷ ks) zero k is =
    record { value = initial_value j; is = refl; kind = kind_of-initial_value j ∙ same_Some j k is }
at_first (j ∷ ks) (suc x) k is = at_first ks x k is

first_are : (ks : List Kind) → AreOf ks (map initial_value ks)
first_are ks = record { each = at_first ks }

module _ (vs : List Variable) where
  abbrev values : List Value
  values = map initial_value (kinds_of vs)

  many : length values ≡ length vs
  many = length-map (kinds_of vs) initial_value ∙ length-map vs (λ x. x.kind)

  expression_reads : (k : Kind) (e : Expr) → IsExpression (kinds_of vs) k e → (x : ℕ) → Contains (reads e) x → x < length vs
  expression_reads k e is x inner =
      let its = value_gives e (kinds_of vs) values k (first_are (kinds_of vs)) is.kinded in
      subst (λ n. x < n) many (known e values its.value its.is x inner)

  effect_within : (e : Effect) → IsEffect vs e → e.variable < length vs
  effect_within e is = slice_get_within vs e.variable is.target is.is_target

  effect_reads : (e : Effect) → IsEffect vs e → (x : ℕ) → Reads (access_of_assignment e.variable (assignment_of e.variable e.value)) x → x < length vs
  effect_reads e is x read =
      let its = value_gives e.value (kinds_of vs) values is.target.kind (first_are (kinds_of vs)) is.value.kinded in
      subst (λ n. x < n) many
      (assigned_known e.variable e.value values its.value its.is (subst (λ n. e.variable < n) (sym many) (effect_within e is)) x (inl read))

module _ (c : Chart) (rules : IsChart features.Extended c) (core_rules : IsChart features.Core (expanded c)) where
  abbrev pub k : Table
  k = table c

  abbrev pub core : Table
  core = table (expanded c)

  abbrev pub i : Images
  i = ticks.i c rules core_rules

  abbrev pub rows : CoreRows k core i
  rows = ticks.rows c rules core_rules

  abbrev pub IsWeak : ℕ → ℕ → Type 0
  IsWeak u x = (i.flags_of u).weak ≡ Some x

  -- state n is held by the thread of the region that holds superstate u
  abbrev pub AtHome : ℕ → ℕ → Type 0
  AtHome n u = holder core n ≡ holder core (i.main_of u)

  pub record TameTrigger (n : ℕ) (trigger : Option Expr) : Type 0 where
    pub reads_home : (u x : ℕ) → IsWeak u x → Reads (access_of_trigger trigger) x → AtHome n u

  pub record TameEffect (n : ℕ) (e : Effect) : Type 0 where
    pub sets_home : (u x : ℕ) → IsWeak u x → e.variable ≡ x → ((m : ℕ) × (e ≡ put x (suc m))) ⊎ AtHome n u
    pub reads_none : (u x : ℕ) → IsWeak u x → ¬ Reads (access_of_assignment e.variable (assignment_of e.variable e.value)) x

  -- a transition that is no abort, and sets weak flags so
  pub record Mild (n : ℕ) (t : Transition) : Type 0 where
    pub effects : Each (TameEffect n) t.effects
    pub no_strong : is_strong t.kind ≡ false
    pub no_weak : is_weak t.kind ≡ false

  -- and that reads weak flags so
  pub record Tame (n : ℕ) (t : Transition) : Type 0 where
    pub mild : Mild n t
    pub trigger : TameTrigger n t.trigger

  -- ---- which numbers are weak flags

  added : (u x : ℕ) → IsWeak u x → x < length k.variables → ⊥
  added u x weak lt = let past = rows.weak_added u x weak in absurd (omega (past, lt, arith))

  pub owner_of_weak : (u x : ℕ) → IsWeak u x → rows.of_flag x ≡ u
  owner_of_weak u x weak = ((opening_rows c rules core_rules).flag_of u x (inr (inl weak))).0

  strong_not_weak : (s u x : ℕ) → (i.flags_of s).strong ≡ Some x → IsWeak u x → ⊥
  strong_not_weak s u x strong weak = both (subst (Apart (Some x)) weak_here (subst (λ f. Apart f (i.flags_of s).weak) strong apart.0)) refl
    where
      apart : Apart (i.flags_of s).strong (i.flags_of s).weak ×
          (Apart (i.flags_of s).strong (i.flags_of s).counter × Apart (i.flags_of s).weak (i.flags_of s).counter)
      apart = (opening_rows c rules core_rules).flags_apart s

      same : u ≡ s
      same = sym (owner_of_weak u x weak) ∙ ((opening_rows c rules core_rules).flag_of s x (inl strong)).0

      weak_here : (i.flags_of s).weak ≡ Some x
      weak_here = subst (λ v. IsWeak v x) same weak

      both : Apart (Some x) (Some x) → x ≢ x
      both differ = differ

  counter_not_weak : (s u x : ℕ) → (i.flags_of s).counter ≡ Some x → IsWeak u x → ⊥
  counter_not_weak s u x counter weak = both (subst (Apart (Some x)) counter (subst (λ f. Apart f (i.flags_of s).counter) weak_here apart.1.1)) refl
    where
      apart : Apart (i.flags_of s).strong (i.flags_of s).weak ×
          (Apart (i.flags_of s).strong (i.flags_of s).counter × Apart (i.flags_of s).weak (i.flags_of s).counter)
      apart = (opening_rows c rules core_rules).flags_apart s

      same : u ≡ s
      same = sym (owner_of_weak u x weak) ∙ ((opening_rows c rules core_rules).flag_of s x (inr (inr counter))).0

      weak_here : (i.flags_of s).weak ≡ Some x
      weak_here = subst (λ v. IsWeak v x) same weak

      both : Apart (Some x) (Some x) → x ≢ x
      both differ = differ

  -- ---- triggers

  module _ (n : ℕ) where
    pub no_trigger : TameTrigger n None
    no_trigger = record { reads_home = λ u x weak read. absurd (none_in x read) }

    tests_trigger : (trigger : Option Expr) (y : ℕ) → access_of_trigger trigger ≡ tests y → ((u : ℕ) → IsWeak u y → AtHome n u) → TameTrigger n trigger
    tests_trigger trigger y is home =
        record {
          reads_home = λ u x weak read.
              home u (subst (IsWeak u) (sym (tests_at y x (inl (subst (λ a. Reads a x) is read)))) weak);
        }

    pub strong_trigger : (s y : ℕ) → (i.flags_of s).strong ≡ Some y → TameTrigger n (Some (is_raised y))
    strong_trigger s y strong = tests_trigger (Some (is_raised y)) y (raised_access y) (λ u weak. absurd (strong_not_weak s u y strong weak))

    pub strong_number : (s y m : ℕ) → (i.flags_of s).strong ≡ Some y → TameTrigger n (Some (is_number y m))
    strong_number s y m strong = tests_trigger (Some (is_number y m)) y (number_access y m) (λ u weak. absurd (strong_not_weak s u y strong weak))

    pub counter_number : (s y m : ℕ) → (i.flags_of s).counter ≡ Some y → TameTrigger n (Some (is_number y m))
    counter_number s y m counter = tests_trigger (Some (is_number y m)) y (number_access y m) (λ u weak. absurd (counter_not_weak s u y counter weak))

    pub weak_number : (s y m : ℕ) → IsWeak s y → AtHome n s → TameTrigger n (Some (is_number y m))
    weak_number s y m flag home =
        tests_trigger (Some (is_number y m)) y (number_access y m)
        (λ u weak. subst (AtHome n) (sym (owner_of_weak s y flag) ∙ owner_of_weak u y weak) home)

    pub declared_trigger : (t : Transition) → SoundTest k.variables t → TameTrigger n t.trigger
    declared_trigger t sound = record { reads_home = λ u x weak read. by t.trigger refl u x weak read }
      where
        by : (o : Option Expr) → t.trigger ≡ o → (u x : ℕ) → IsWeak u x → Reads (access_of_trigger o) x → AtHome n u
        by None is u x weak read = absurd (none_in x read)
        by (Some e) is u x weak read = absurd (added u x weak (expression_reads k.variables of_kind.Bool e (sound.trigger e is) x read))

    -- ---- effects

    pub declared_effect : (e : Effect) → IsEffect k.variables e → TameEffect n e
    declared_effect e is =
        record {
          sets_home = λ u x weak same. absurd (added u x weak (subst (λ z. z < length k.variables) same (effect_within k.variables e is)));
          reads_none = λ u x weak read. added u x weak (effect_reads k.variables e is x read);
        }

    pub count_effect : (s y : ℕ) → (i.flags_of s).counter ≡ Some y → TameEffect n (count_down y)
    count_effect s y counter =
        record {
          sets_home = λ u x weak same. absurd (counter_not_weak s u x (counter ∙ ap Some same) weak);
          reads_none = λ u x weak read. none_in x (subst (λ a. Reads a x) (counted_access y) read);
        }

    put_reads : (y m x : ℕ) → ¬ Reads (access_of_assignment y (assignment_of y (put y m).value)) x
    put_reads y m x read = none_in x (subst (λ a. Reads a x) (put_access y m) read)

    pub raise_effect : (y m : ℕ) → TameEffect n (put y (suc m))
    raise_effect y m =
        record {
          sets_home = λ u x weak same. inl (m, ap (λ z. put z (suc m)) same);
          reads_none = λ u x weak. put_reads y (suc m) x;
        }

    -- a superstate's own flag, set by its thread
    pub own_effect : (s y m : ℕ) → rows.of_flag y ≡ s → AtHome n s → TameEffect n (put y m)
    own_effect s y m owner home =
        record {
          sets_home = λ u x weak same.
              inr (subst (AtHome n) (sym owner ∙ (ap rows.of_flag same ∙ owner_of_weak u x weak)) home);
          reads_none = λ u x weak. put_reads y m x;
        }
