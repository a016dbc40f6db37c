-- A chart that names no constant keeps its expressions, and one that gives no initial value sets none.
use Rattle.std.proofs.Common.{◌≡◌, ℕ, zero, suc, Option, Some, None, List, [], ◌∷◌, map, slice_get, refl, sym, ap, ◌∙◌}
use Rattle.sc_graph.specs.declared.program.Variable.{Variable}
use Rattle.sc_values.specs.declared.value.Value.{Value}
use Rattle.sc_values.specs.declared.expression.Expr.{Expr}
use Rattle.sc_values.specs.declared.expression.Expr.TheOpen as tree
use Rattle.sc_values.specs.declared.expression.Expr.TheFolds.{fold-roll-Expr}
use Rattle.sc_values.specs.declared.expression.Expr.TheVariants as expr
use Rattle.sc_values.specs.declared.expression.Expr.TheVariants.{rolls-Literal, rolls-Load, rolls-Unary, rolls-Binary}
use Rattle.sc_values.proofs.Induction.{induct}
use Rattle.sc_text.proofs.EachItem.{Each}
use Rattle.core_charts.specs.declared.region.Effect.{Effect}
use Rattle.core_charts.specs.declared.region.Transition.{Transition}
use Rattle.core_charts.specs.declared.region.Region.{Region}
use Rattle.core_charts.specs.declared.region.State.{State}
use Rattle.core_charts.specs.declared.region.Region.TheViews.{out-Region, out-State}
use Rattle.extended_charts.specs.declared.extended.Declared.{Declared}
use Rattle.extended_charts.specs.declared.extended.ExtendedRegion.{ExtendedRegion}
use Rattle.extended_charts.specs.declared.extended.ExtendedState.{ExtendedState}
use Rattle.extended_charts.specs.declared.extended.ExtendedRegion.TheViews.{roll-ExtendedRegion, roll-ExtendedState}
use Rattle.extended_charts.specs.declared.reading.Reading.{Reading}
use Rattle.extended_charts.specs.declared.reading.Reading.TheVariants as reading
use Rattle.extended_charts.specs.Reading.{valued, replaced_step, replaced, replaced_trigger}
use Rattle.chart_reduction.specs.Constants.{named_values, valued_effect, valued_transition, valued_region, valued_state, state_step}
use Rattle.chart_reduction.specs.Initial.{settings}
use Rattle.chart_reduction.specs.Laws.{of_region, of_state, of_variable}
use Rattle.chart_reduction.proofs.ByRules.{Cases}
use Rattle.chart_reduction.proofs.PlainParts.{both_same, over_state, over_region, state_is, region_is, state_folded, region_folded}

-- ---- no initial values

pub nothing_set : (x : ℕ) (variables : List Variable) → settings x (map of_variable variables) ≡ []
nothing_set x [] = refl
nothing_set x (v ∷ variables) = nothing_set (suc x) variables

-- ---- no names

abbrev pub NothingNamed : List (Option Value) → Type 0
NothingNamed named = (x y : ℕ) → valued y (slice_get named x) ≡ expr.Load y

pub nothing_named : (variables : List Declared) → NothingNamed (named_values variables [] [])
nothing_named [] x y = refl
nothing_named (d ∷ variables) zero y = refl
nothing_named (d ∷ variables) (suc x) y = nothing_named variables x y

module _ (named : List (Option Value)) (none : NothingNamed named) where
  abbrev pub R : Reading
  R = reading.Values named

  expression_same : (e : Expr) → replaced R e ≡ e
  expression_same = induct (λ e. replaced R e ≡ e) (record {
    of_literal = λ v. fold-roll-Expr Expr (replaced_step R) (tree.Literal v) ∙ sym (rolls-Literal v);
    of_load = λ x. fold-roll-Expr Expr (replaced_step R) (tree.Load x) ∙ none x x ∙ sym (rolls-Load x);
    of_unary = λ f a h. fold-roll-Expr Expr (replaced_step R) (tree.Unary f a) ∙ ap (λ e. expr.Unary f e) h ∙ sym (rolls-Unary f a);
    of_binary = λ f a b h k.
        fold-roll-Expr Expr (replaced_step R) (tree.Binary f a b)
        ∙ ap (λ e. expr.Binary f e (replaced R b)) h
        ∙ ap (λ e. expr.Binary f a e) k
        ∙ sym (rolls-Binary f a b);
  })

  trigger_same : (t : Option Expr) → replaced_trigger R t ≡ t
  trigger_same None = refl
  trigger_same (Some e) = ap Some (expression_same e)

  effects_same : (effects : List Effect) → map (valued_effect R) effects ≡ effects
  effects_same [] = refl
  effects_same (e ∷ effects) =
      ap (λ v. record e { value = v } ∷ map (valued_effect R) effects) (expression_same e.value) ∙ ap (λ es. e ∷ es) (effects_same effects)

  transitions_same : (transitions : List Transition) → map (valued_transition R) transitions ≡ transitions
  transitions_same [] = refl
  transitions_same (t ∷ transitions) =
      ap (λ e. record t { trigger = e; effects = map (valued_effect R) t.effects } ∷ map (valued_transition R) transitions) (trigger_same t.trigger)
      ∙ ap (λ es. record t { effects = es } ∷ map (valued_transition R) transitions) (effects_same t.effects)
      ∙ ap (λ ts. t ∷ ts) (transitions_same transitions)

  abbrev pub RegionSame : Region → Type 0
  RegionSame r = valued_region R (of_region r) ≡ of_region r

  abbrev pub StateSame : ℕ → State → Type 0
  StateSame n s = valued_state R (of_state s) ≡ of_state s

  state_same : (s : State) → Each RegionSame (out-State s).regions → valued_state R (of_state s) ≡ of_state s
  state_same s inner =
      let regions : List Region = (out-State s).regions in
      state_folded ExtendedRegion ExtendedState roll-ExtendedRegion (state_step R) s
      ∙ ap (λ rs. roll-ExtendedState (record (over_state s rs) { transitions = map (valued_transition R) (out-State s).transitions }))
      (both_same (valued_region R) of_region regions inner)
      ∙ ap (λ ts. roll-ExtendedState (record (over_state s (map of_region regions)) { transitions = ts })) (transitions_same (out-State s).transitions)
      ∙ sym (state_is s)

  region_same : (r : Region) → Each (λ s. valued_state R (of_state s) ≡ of_state s) (out-Region r).states → RegionSame r
  region_same r inner =
      region_folded ExtendedRegion ExtendedState roll-ExtendedRegion (state_step R) r
      ∙ ap (λ ss. roll-ExtendedRegion (over_region r ss)) (both_same (valued_state R) of_state (out-Region r).states inner)
      ∙ sym (region_is r)

  pub values_stay : (variables : List Variable) → Cases variables RegionSame StateSame
  values_stay variables = record { of_state = λ count s rules inner. state_same s inner; of_region = λ r inner. region_same r inner }
