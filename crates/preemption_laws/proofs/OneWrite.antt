-- What a step of a chart does to the variables: an effect writes its one, and a test none.
use Rattle.std.proofs.Common.{◌≡◌, ℕ, ◌⊎◌, inl, inr, Bool, Option, Some, None, option_map, option_and_then, List, [], ◌∷◌, slice_get, slice_set}
use Rattle.std.proofs.Common.{if◌then◌else◌, refl, sym, ap, ◌∙◌}
use Rattle.std.proofs.lemmas.Option.{same_Some}
use Rattle.sc_values.specs.declared.value.Value.{Value}
use Rattle.sc_values.specs.Operator.{kind_of}
use Rattle.sc_values.specs.Expr.{value as value_of}
use Rattle.sc_graph.specs.Steps.{takes_kind}
use Rattle.core_charts.specs.declared.region.Effect.{Effect}
use Rattle.chart_machine.specs.declared.region_change.RegionChange.{RegionChange}
use Rattle.chart_machine.specs.declared.standing.Configuration.{Configuration}
use Rattle.chart_machine.specs.declared.standing.Move.{Move}
use Rattle.chart_machine.specs.declared.standing.Standing.{Standing}
use Rattle.chart_machine.specs.declared.standing.Standing.TheVariants as at
use Rattle.chart_machine.specs.declared.table.Table.{Table}
use Rattle.chart_machine.specs.Turns.{standing_of}
use Rattle.chart_machine.specs.Steps.{written, verdict, acts, effected, change_of, step}
use Rattle.tick_laws.proofs.Views.{only_if_some}
use Rattle.abort_expansion_laws.proofs.KnownVariables.{Stepped, stepped}
use Rattle.abort_expansion_laws.proofs.MoreValues.{Got, got}

-- the effect that a standing makes next
pub record MakesEffect (x : Standing) : Type 0 where
  pub state : ℕ
  pub effect : Effect
  pub effects : List Effect
  pub target : ℕ
  pub stands : x ≡ at.Acting state (effect ∷ effects) target

module _ (k : Table) (c : Configuration) (t : ℕ) where
  -- nothing is written, or this effect's variable
  abbrev Writes : Standing → RegionChange → Type 0
  Writes x change =
      (change.write ≡ None) ⊎ ((m : MakesEffect x) × (v : Value) × (change.write ≡ Some (record { variable = m.effect.variable; value = v })))

  by_verdict : (x : Standing) (ins outs : List Move) (change : RegionChange) (v : Option Bool) →
      option_map (λ holds. record { write = None; moves = if holds then ins else outs }) v ≡ Some change → Writes x change
  by_verdict x ins outs change None e = absurd cc
  by_verdict x ins outs change (Some b) e =
      inl (sym (ap (λ (z : RegionChange). z.write) (same_Some (record { write = None; moves = if b then ins else outs }) change e)))

  by_value : (s p : ℕ) (f : Effect) (effects : List Effect) (change : RegionChange) →
      option_and_then (effected k t s f effects p) (value_of f.value c.variables) ≡ Some change → Writes (at.Acting s (f ∷ effects) p) change
  by_value s p f effects change e =
      let one : Got (effected k t s f effects p) (value_of f.value c.variables) change =
      got (effected k t s f effects p) (value_of f.value c.variables) change e in
      let given : RegionChange = record { write = Some (record { variable = f.variable; value = one.item }); moves = acts k t s effects p } in
      let parts = only_if_some (takes_kind (option_map (λ x. x.kind) (slice_get k.variables f.variable)) (kind_of one.item)) (Some given) change one.gives in
      inr (
        record { state = s; effect = f; effects = effects; target = p; stands = refl },
        one.item,
        sym (ap (λ (z : RegionChange). z.write) (same_Some given change parts.1)),
      )

  by_standing : (x : Standing) (change : RegionChange) → change_of k c t x ≡ Some change → Writes x change
  by_standing at.Outside change e = absurd cc
  by_standing at.Ended change e = absurd cc
  by_standing (at.Trying s []) change e = absurd cc
  by_standing (at.Trying s (w ∷ tests)) change e = by_verdict (at.Trying s (w ∷ tests)) _ _ change (verdict c.variables w.trigger) e
  by_standing (at.Entering s []) change e = absurd cc
  by_standing (at.Entering s (w ∷ tests)) change e = by_verdict (at.Entering s (w ∷ tests)) _ _ change (verdict c.variables w.trigger) e
  by_standing (at.Guarding s []) change e = absurd cc
  by_standing (at.Guarding s (w ∷ tests)) change e = by_verdict (at.Guarding s (w ∷ tests)) _ _ change (verdict c.variables w.trigger) e
  by_standing (at.Within s []) change e = absurd cc
  by_standing (at.Within s (w ∷ tests)) change e = by_verdict (at.Within s (w ∷ tests)) _ _ change (verdict c.variables w.trigger) e
  by_standing (at.Acting s [] p) change e = absurd cc
  by_standing (at.Acting s (f ∷ effects) p) change e = by_value s p f effects change e

  -- so it is after a step
  abbrev pub Wrote : Configuration → Type 0
  Wrote d =
      (d.variables ≡ c.variables)
      ⊎ ((m : MakesEffect (standing_of c t)) × (v : Value) × (d.variables ≡ slice_set c.variables m.effect.variable v))

  pub one_write : (d : Configuration) → step k t c ≡ Some d → Wrote d
  one_write d steps = by (by_standing (standing_of c t) parts.change parts.does)
    where
      parts : Stepped k t c d
      parts = stepped k t c d steps

      now : d.variables ≡ written parts.change.write c.variables
      now = sym (ap (λ (z : Configuration). z.variables) parts.is)

      by : Writes (standing_of c t) parts.change → Wrote d
      by (inl none) = inl (now ∙ ap (λ w. written w c.variables) none)
      by (inr (m, v, is)) = inr (m, v, now ∙ ap (λ w. written w c.variables) is)
