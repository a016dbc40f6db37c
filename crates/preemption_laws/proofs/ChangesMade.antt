-- What the change of a step writes, and which moves it makes.
use Rattle.std.proofs.Common.{◌≡◌, ℕ, Bool, true, false, Option, Some, None, List, [], ◌∷◌, slice_get, if◌then◌else◌, option_map, refl, subst}
use Rattle.std.proofs.lemmas.Option.{same_Some}
use Rattle.sc_values.specs.declared.value.Value.{Value}
use Rattle.sc_values.specs.Expr.{value as value_of}
use Rattle.sc_values.specs.Operator.{kind_of}
use Rattle.sc_graph.specs.Steps.{takes_kind}
use Rattle.core_charts.specs.declared.region.Effect.{Effect}
use Rattle.chart_machine.specs.declared.region_change.RegionChange.{RegionChange}
use Rattle.chart_machine.specs.declared.standing.Configuration.{Configuration}
use Rattle.chart_machine.specs.declared.standing.Move.{Move}
use Rattle.chart_machine.specs.declared.standing.Standing.{Standing}
use Rattle.chart_machine.specs.declared.standing.Standing.TheVariants as at
use Rattle.chart_machine.specs.declared.table.Table.{Table}
use Rattle.chart_machine.specs.Steps.{to, verdict, acts, taken, entering_on, guarding_on, effected, change_of}
use Rattle.tick_laws.proofs.Lists.{and_then_some}
use Rattle.tick_laws.proofs.Views.{only_if_some}
use Rattle.abort_expansion_laws.proofs.ChartSteps.{Makes, takes_trying, takes_entering, takes_guarding, takes_within, tries_on, enters_on, guards_on}
use Rattle.abort_expansion_laws.proofs.ChartSteps.{waits_on, acts_on}

-- what a step writes: nothing, or the first effect of its region
pub data Writes (c : Configuration) (x : Standing) (d : RegionChange) : Type 0 where
  writes_nothing : d.write ≡ None → Writes c x d
  writes_effect : (s p : ℕ) (e : Effect) (effects : List Effect) (v : Value) → x ≡ at.Acting s (e ∷ effects) p → value_of e.value c.variables ≡ Some v →
      d.write ≡ Some (record { variable = e.variable; value = v }) → Writes c x d

module _ (k : Table) (c : Configuration) (r : ℕ) where
  abbrev pub Made : Standing → RegionChange → Type 0
  Made x d = Writes c x d × Makes k r x d.moves

  by_verdict : (x : Standing) (ins outs : List Move) (d : RegionChange) (v : Option Bool) →
      option_map (λ holds. record { write = None; moves = if holds then ins else outs }) v ≡ Some d → Makes k r x ins → Makes k r x outs → Made x d
  by_verdict x ins outs d None e ones others = absurd cc
  by_verdict x ins outs d (Some true) e ones others =
      let same : record { write = None; moves = ins } ≡ d = same_Some (record { write = None; moves = ins }) d e in
      subst (Made x) same (writes_nothing refl, ones)
  by_verdict x ins outs d (Some false) e ones others =
      let same : record { write = None; moves = outs } ≡ d = same_Some (record { write = None; moves = outs }) d e in
      subst (Made x) same (writes_nothing refl, others)

  pub what_is_made : (x : Standing) (d : RegionChange) → change_of k c r x ≡ Some d → Made x d
  what_is_made at.Outside d e = absurd cc
  what_is_made at.Ended d e = absurd cc
  what_is_made (at.Trying s []) d e = absurd cc
  what_is_made (at.Trying s (t ∷ tests)) d e =
      by_verdict (at.Trying s (t ∷ tests)) (taken k r s t) (to r (at.Trying s tests) ∷ []) d (verdict c.variables t.trigger) e (takes_trying s t tests)
      (tries_on s t tests)
  what_is_made (at.Entering s []) d e = absurd cc
  what_is_made (at.Entering s (t ∷ tests)) d e =
      by_verdict (at.Entering s (t ∷ tests)) (taken k r s t) (entering_on k r s tests) d (verdict c.variables t.trigger) e (takes_entering s t tests)
      (enters_on s t tests)
  what_is_made (at.Guarding s []) d e = absurd cc
  what_is_made (at.Guarding s (t ∷ tests)) d e =
      by_verdict (at.Guarding s (t ∷ tests)) (taken k r s t) (guarding_on k r s tests) d (verdict c.variables t.trigger) e (takes_guarding s t tests)
      (guards_on s t tests)
  what_is_made (at.Within s []) d e = absurd cc
  what_is_made (at.Within s (t ∷ tests)) d e =
      by_verdict (at.Within s (t ∷ tests)) (taken k r s t) (to r (at.Within s tests) ∷ []) d (verdict c.variables t.trigger) e (takes_within s t tests)
      (waits_on s t tests)
  what_is_made (at.Acting s [] p) d e = absurd cc
  what_is_made (at.Acting s (f ∷ effects) p) d e =
      let v = and_then_some (effected k r s f effects p) (value_of f.value c.variables) d e in
      let given : RegionChange = record { write = Some (record { variable = f.variable; value = v.0 }); moves = acts k r s effects p } in
      let parts = only_if_some (takes_kind (option_map (λ x. x.kind) (slice_get k.variables f.variable)) (kind_of v.0)) (Some given) d v.2 in
      let same : given ≡ d = same_Some given d parts.1 in
      subst (Made (at.Acting s (f ∷ effects) p)) same (writes_effect s p f effects v.0 refl v.1 refl, acts_on s p f effects)
