-- What the effects, the trigger and the transitions of a state of a draft are where nothing is wrong with them.
use Rattle.std.proofs.Common.{◌≡◌, ℕ, suc, ◌+◌, ◌≤◌, Bool, true, false, cond, IsTrue, Option, Some, None, List, [], ◌∷◌, ◌++◌, length, map, slice_get, refl, ap}
use Rattle.std.proofs.Common.{subst, arith}
use Rattle.std.specs.Prelude.{not, ◌&&◌, ◌||◌, count_by, option_map}
use Rattle.std.proofs.lemmas.List.{length-map}
use Rattle.std.proofs.lemmas.List.Sums.{sum_by-cons}
use Rattle.grammar.proofs.Each.{Every, every_at}
use Rattle.sc_values.specs.declared.value.Kind.TheVariants as of_kind
use Rattle.sc_values.specs.declared.expression.Expr.{Expr}
use Rattle.sc_text.specs.Parts.{IsExpression}
use Rattle.sc_text.specs.declared.drafts.parts.TextExpression.{TextExpression}
use Rattle.sc_text.specs.declared.drafts.parts.Declaration.{Declaration}
use Rattle.sc_text.specs.Flaws.{is_among, variable_names, variable_named, assigned_flaws}
use Rattle.sc_text.specs.Resolved.{expression_of, variables_of}
use Rattle.sc_text.proofs.Kinded.{kinds_of}
use Rattle.sc_text.proofs.Declared.{room_for_one, room_for_more}
use Rattle.sc_text.proofs.Assigned.{IsAssigned, assigned_is}
use Rattle.sc_text.proofs.Unflawed.{none_first, none_second, no_flaw, not_false, or_first, or_second, expression_is}
use Rattle.core_charts.specs.declared.features.Features.TheVariants as features
use Rattle.core_charts.specs.declared.region.Transition.{Transition}
use Rattle.core_charts.specs.declared.region.TransitionKind.{TransitionKind}
use Rattle.core_charts.specs.declared.region.TransitionKind.TheVariants as kind
use Rattle.core_charts.specs.Rules.{IsEffect, IsTransition, allows, fits_state}
use Rattle.core_charts.specs.Tests.{is_join}
use Rattle.chart_reader.specs.declared.text_drafts.draft.DraftEffect.{DraftEffect}
use Rattle.chart_reader.specs.declared.text_drafts.draft.DraftTransition.{DraftTransition}
use Rattle.chart_reader.specs.Flaws.{effect_flaws, trigger_flaws, transition_flaws}
use Rattle.chart_reader.specs.Shape.{IsWritable, IsTransitionShaped}
use Rattle.chart_reader.specs.Resolved.{effect_of, transition_of}
use Rattle.chart_reader.proofs.Names.{number_below}

-- ---- effects and triggers

module _ (V : List Declaration) where
  abbrev vn : List (List ℕ)
  vn = variable_names V

  effect_is : (e : DraftEffect) → IsWritable e.value → assigned_flaws V (variable_named V e.variable.name) e.variable e.value ≡ []
      → IsEffect (variables_of V) (effect_of vn e)
  effect_is e can none =
      let assigned : IsAssigned V e.variable e.value = assigned_is V e.variable e.value can none in
      record { target = assigned.variable; is_target = assigned.is_there; no_input = assigned.no_input; value = assigned.value }

  record Effects (before : ℕ) (effects : List DraftEffect) : Type 0 where
    pub count : before ≤ 16 → before + length effects ≤ 16
    pub each : Every (IsEffect (variables_of V)) (map (effect_of vn) effects)

  effects_are : (before : ℕ) (effects : List DraftEffect) → ((i : ℕ) (e : DraftEffect) → slice_get effects i ≡ Some e → IsWritable e.value)
      → effect_flaws V before effects ≡ [] → Effects before effects
  effects_are before [] can none = record { count = λ le. omega (arith, le); each = tt }
  effects_are before (e ∷ more) can none =
      let own : assigned_flaws V (variable_named V e.variable.name) e.variable e.value ++ effect_flaws V (before + 1) more ≡ [] = none_second _ _ none in
      let room : before + 1 ≤ 16 = room_for_one 16 before (no_flaw _ _ _ (none_first _ _ none)) in
      let rest : Effects (before + 1) more = effects_are (before + 1) more (λ i x at. can (suc i) x at) (none_second _ _ own) in
      record {
        count = λ le. room_for_more 16 before (length more) room rest.count;
        each = (effect_is e (can 0 e refl) (none_first _ _ own), rest.each);
      }

  trigger_is : (trigger : Option TextExpression) → ((e : TextExpression) → trigger ≡ Some e → IsWritable e) → trigger_flaws V trigger ≡ [] → (x : Expr)
      → option_map (λ (e : TextExpression). expression_of vn e.operations) trigger ≡ Some x → IsExpression (kinds_of V) of_kind.Bool x
  trigger_is None can none x is = absurd cc
  trigger_is (Some e) can none x is =
      let same : expression_of vn e.operations ≡ x = cc in
      subst (IsExpression (kinds_of V) of_kind.Bool) same (expression_is V of_kind.Bool e (can e refl) none)

-- ---- transitions

all_allowed : (k : TransitionKind) → IsTrue (allows features.Extended k)
all_allowed kind.Go = refl
all_allowed kind.Strong = refl
all_allowed kind.Weak = refl
all_allowed kind.Join = refl

abbrev joins_in : List Transition → ℕ
joins_in transitions = count_by (λ t. is_join t.kind) transitions

at_most_one : (behind joins : Bool) (n : ℕ) → (joins && behind) ≡ false → cond (behind || joins) 1 0 + n ≤ 1 → cond behind 1 0 + (cond joins 1 0 + n) ≤ 1
at_most_one true true n e le = absurd cc
at_most_one true false n e le = omega (arith, le)
at_most_one false true n e le = omega (arith, le)
at_most_one false false n e le = omega (arith, le)

-- a transition in front of others, behind a termination or not
one_join : (behind : Bool) (t : Transition) (more : List Transition) → (is_join t.kind && behind) ≡ false
    → cond (behind || is_join t.kind) 1 0 + joins_in more ≤ 1 → cond behind 1 0 + joins_in (t ∷ more) ≤ 1
one_join behind t more e le =
    let sum = sum_by-cons (λ (x : Transition). cond (is_join x.kind) 1 0) t more in
    let one = at_most_one behind (is_join t.kind) (joins_in more) e le in
    omega (arith, sum, one)

module _ (V : List Declaration) (names : List (List ℕ)) (is_superstate : Bool) where
  abbrev of_transition : DraftTransition → Transition
  of_transition = transition_of (variable_names V) names

  abbrev pub IsOne : Transition → Type 0
  IsOne = IsTransition features.Extended (variables_of V) (length names) is_superstate

  transition_is : (t : DraftTransition) → IsTransitionShaped t → fits_state is_superstate t.kind ≡ true → trigger_flaws V t.trigger ≡ []
      → effect_flaws V 0 t.effects ≡ [] → is_among names t.target.name ≡ true → IsOne (of_transition t)
  transition_is t shaped fits trigger effects target =
      let all : Effects V 0 t.effects = effects_are V 0 t.effects shaped.effects effects in
      record {
        allowed = all_allowed t.kind;
        fits = fits;
        plain_join = λ join. (
          (shaped.plain_join join).0,
          ap (option_map (λ (e : TextExpression). expression_of (variable_names V) e.operations))
              (shaped.plain_join join).1,
        );
        trigger = trigger_is V t.trigger shaped.trigger trigger;
        effect_count = (let few = all.count (omega arith) in let long = length-map t.effects (effect_of (variable_names V)) in omega (arith, few, long));
        effects = every_at (IsEffect (variables_of V)) (map (effect_of (variable_names V)) t.effects) all.each;
        target = number_below names t.target.name target;
      }

  -- what is known of the transitions from one place on, behind a termination or not
  pub record Transitions (behind : Bool) (before : ℕ) (transitions : List DraftTransition) : Type 0 where
    pub count : before ≤ 64 → before + length transitions ≤ 64
    pub joins : cond behind 1 0 + joins_in (map of_transition transitions) ≤ 1
    pub each : Every IsOne (map of_transition transitions)

  pub transitions_are : (behind : Bool) (before : ℕ) (transitions : List DraftTransition)
      → ((i : ℕ) (t : DraftTransition) → slice_get transitions i ≡ Some t → IsTransitionShaped t)
      → transition_flaws V names is_superstate behind before transitions ≡ [] → Transitions behind before transitions
  transitions_are true before [] shaped none = record { count = λ le. omega (arith, le); joins = omega arith; each = tt }
  transitions_are false before [] shaped none = record { count = λ le. omega (arith, le); joins = omega arith; each = tt }
  transitions_are behind before (t ∷ more) shaped none =
      let from_kind = none_second _ _ none in
      let from_trigger = none_second _ _ from_kind in
      let from_effects = none_second _ _ from_trigger in
      let from_target = none_second _ _ from_effects in
      let room : before + 1 ≤ 64 = room_for_one 64 before (no_flaw _ _ _ (none_first _ _ none)) in
      let kinds : (not (fits_state is_superstate t.kind) || (is_join t.kind && behind)) ≡ false = no_flaw _ _ _ (none_first _ _ from_kind) in
      let among : is_among names t.target.name ≡ true = not_false _ (no_flaw _ _ _ (none_first _ _ from_target)) in
      let rest : Transitions (behind || is_join t.kind) (before + 1) more = transitions_are (behind || is_join t.kind) (before + 1) more
      (λ i x at. shaped (suc i) x at) (none_second _ _ from_target) in
      record {
        count = λ le. room_for_more 64 before (length more) room rest.count;
        joins = one_join behind (of_transition t) (map of_transition more) (or_second _ _ kinds) rest.joins;
        each = (
          transition_is t (shaped 0 t refl) (not_false _ (or_first _ _ kinds)) (none_first _ _ from_trigger) (none_first _ _ from_effects) among,
          rest.each,
        );
      }
