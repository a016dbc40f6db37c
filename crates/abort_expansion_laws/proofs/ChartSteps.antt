-- The moves of a step of a chart, by where its region stands.
use Rattle.std.proofs.Common.{◌≡◌, ℕ, Bool, true, false, Option, Some, None, List, [], ◌∷◌, option_map, option_and_then, slice_get}
use Rattle.std.proofs.Common.{if◌then◌else◌, subst}
use Rattle.std.proofs.lemmas.Option.{same_Some}
use Rattle.sc_values.specs.declared.value.Value.{Value}
use Rattle.sc_values.specs.Operator.{kind_of}
use Rattle.sc_values.specs.Expr.{value as value_of}
use Rattle.sc_graph.specs.Steps.{only_if, takes_kind}
use Rattle.core_charts.specs.declared.region.Effect.{Effect}
use Rattle.core_charts.specs.declared.region.Transition.{Transition}
use Rattle.chart_machine.specs.declared.region_change.RegionChange.{RegionChange}
use Rattle.chart_machine.specs.declared.standing.Standing.{Standing}
use Rattle.chart_machine.specs.declared.standing.Standing.TheVariants as at
use Rattle.chart_machine.specs.declared.standing.Move.{Move}
use Rattle.chart_machine.specs.declared.standing.Configuration.{Configuration}
use Rattle.chart_machine.specs.declared.table.Table.{Table}
use Rattle.chart_machine.specs.Turns.{standing_of}
use Rattle.chart_machine.specs.Steps.{to, after, verdict, acts, taken, entering_on, guarding_on, effected, change_of, step}
use Rattle.abort_expansion_laws.proofs.KnownVariables.{Stepped, stepped}

-- a transition is taken; or a test fails, and the next one comes; or an effect is made
pub data Makes (k : Table) (r : ℕ) : Standing → List Move → Type 0 where
  takes_trying : (s : ℕ) (t : Transition) (tests : List Transition) → Makes k r (at.Trying s (t ∷ tests)) (taken k r s t)
  takes_entering : (s : ℕ) (t : Transition) (tests : List Transition) → Makes k r (at.Entering s (t ∷ tests)) (taken k r s t)
  takes_guarding : (s : ℕ) (t : Transition) (tests : List Transition) → Makes k r (at.Guarding s (t ∷ tests)) (taken k r s t)
  takes_within : (s : ℕ) (t : Transition) (tests : List Transition) → Makes k r (at.Within s (t ∷ tests)) (taken k r s t)
  tries_on : (s : ℕ) (t : Transition) (tests : List Transition) → Makes k r (at.Trying s (t ∷ tests)) (to r (at.Trying s tests) ∷ [])
  enters_on : (s : ℕ) (t : Transition) (tests : List Transition) → Makes k r (at.Entering s (t ∷ tests)) (entering_on k r s tests)
  guards_on : (s : ℕ) (t : Transition) (tests : List Transition) → Makes k r (at.Guarding s (t ∷ tests)) (guarding_on k r s tests)
  waits_on : (s : ℕ) (t : Transition) (tests : List Transition) → Makes k r (at.Within s (t ∷ tests)) (to r (at.Within s tests) ∷ [])
  acts_on : (s target : ℕ) (e : Effect) (effects : List Effect) → Makes k r (at.Acting s (e ∷ effects) target) (acts k r s effects target)

module _ (k : Table) (r : ℕ) where
  by_verdict : (x : Standing) (ins outs : List Move) (d : RegionChange) (v : Option Bool) →
      option_map (λ holds. record { write = None; moves = if holds then ins else outs }) v ≡ Some d → Makes k r x ins → Makes k r x outs → Makes k r x d.moves
  by_verdict x ins outs d None e ones others = absurd cc
  by_verdict x ins outs d (Some true) e ones others =
      subst (λ (z : RegionChange). Makes k r x z.moves) (same_Some (record { write = None; moves = ins }) d e) ones
  by_verdict x ins outs d (Some false) e ones others =
      subst (λ (z : RegionChange). Makes k r x z.moves) (same_Some (record { write = None; moves = outs }) d e) others

  by_kind : (x : Standing) (b : Bool) (given d : RegionChange) → only_if b (Some given) ≡ Some d → Makes k r x given.moves → Makes k r x d.moves
  by_kind x true given d e makes = subst (λ (z : RegionChange). Makes k r x z.moves) (same_Some given d e) makes
  by_kind x false given d e makes = absurd cc

  by_value : (s target : ℕ) (f : Effect) (effects : List Effect) (d : RegionChange) (v : Option Value) →
      option_and_then (effected k r s f effects target) v ≡ Some d → Makes k r (at.Acting s (f ∷ effects) target) d.moves
  by_value s target f effects d None e = absurd cc
  by_value s target f effects d (Some v) e =
      by_kind (at.Acting s (f ∷ effects) target) (takes_kind (option_map (λ x. x.kind) (slice_get k.variables f.variable)) (kind_of v))
      (record { write = Some (record { variable = f.variable; value = v }); moves = acts k r s effects target }) d e (acts_on s target f effects)

  change_makes : (c : Configuration) (x : Standing) (d : RegionChange) → change_of k c r x ≡ Some d → Makes k r x d.moves
  change_makes c at.Outside d e = absurd cc
  change_makes c at.Ended d e = absurd cc
  change_makes c (at.Trying s []) d e = absurd cc
  change_makes c (at.Trying s (t ∷ tests)) d e =
      by_verdict (at.Trying s (t ∷ tests)) (taken k r s t) (to r (at.Trying s tests) ∷ []) d (verdict c.variables t.trigger) e (takes_trying s t tests)
      (tries_on s t tests)
  change_makes c (at.Entering s []) d e = absurd cc
  change_makes c (at.Entering s (t ∷ tests)) d e =
      by_verdict (at.Entering s (t ∷ tests)) (taken k r s t) (entering_on k r s tests) d (verdict c.variables t.trigger) e (takes_entering s t tests)
      (enters_on s t tests)
  change_makes c (at.Guarding s []) d e = absurd cc
  change_makes c (at.Guarding s (t ∷ tests)) d e =
      by_verdict (at.Guarding s (t ∷ tests)) (taken k r s t) (guarding_on k r s tests) d (verdict c.variables t.trigger) e (takes_guarding s t tests)
      (guards_on s t tests)
  change_makes c (at.Within s []) d e = absurd cc
  change_makes c (at.Within s (t ∷ tests)) d e =
      by_verdict (at.Within s (t ∷ tests)) (taken k r s t) (to r (at.Within s tests) ∷ []) d (verdict c.variables t.trigger) e (takes_within s t tests)
      (waits_on s t tests)
  change_makes c (at.Acting s [] target) d e = absurd cc
  change_makes c (at.Acting s (f ∷ effects) target) d e = by_value s target f effects d (value_of f.value c.variables) e

-- a step makes such moves
pub record StepMade (k : Table) (r : ℕ) (c next : Configuration) : Type 0 where
  pub change : RegionChange
  pub makes : Makes k r (standing_of c r) change.moves
  pub is : after change c ≡ next

pub step_made : (k : Table) (r : ℕ) (c next : Configuration) → step k r c ≡ Some next → StepMade k r c next
step_made k r c next steps =
    let parts : Stepped k r c next = stepped k r c next steps in
    record { change = parts.change; makes = change_makes k r c (standing_of c r) parts.change parts.does; is = parts.is }
