-- More steps of a core chart: a test that is taken, with effects, and the last of these.
use Rattle.std.proofs.Common.{◌≡◌, ℕ, true, false, Some, None, List, [], ◌∷◌, slice_get, slice_set, refl, ap, ◌∙◌}
use Rattle.std.specs.Prelude.{option_map, option_and_then}
use Rattle.sc_values.specs.declared.value.Value.{Value}
use Rattle.sc_values.specs.Operator.{kind_of}
use Rattle.sc_values.specs.Expr.{value as value_of}
use Rattle.sc_graph.specs.Steps.{takes_kind}
use Rattle.core_charts.specs.declared.region.Effect.{Effect}
use Rattle.core_charts.specs.declared.region.Transition.{Transition}
use Rattle.chart_machine.specs.declared.standing.Standing.{Standing}
use Rattle.chart_machine.specs.declared.standing.Standing.TheVariants as at
use Rattle.chart_machine.specs.declared.standing.Move.{Move}
use Rattle.chart_machine.specs.declared.standing.Configuration.{Configuration}
use Rattle.chart_machine.specs.declared.table.Table.{Table}
use Rattle.chart_machine.specs.Table.{state_at}
use Rattle.chart_machine.specs.Turns.{standing_of, is_guarded, inside, is_enabled}
use Rattle.chart_machine.specs.Steps.{to, moved, acts, verdict, taken, effected, change_of, step, state_in}
use Rattle.chart_machine_laws.proofs.LyingIn.{around}
use Rattle.abort_expansion_laws.proofs.TestFails.{tested_is}
use Rattle.abort_expansion_laws.proofs.Leaving.{drops, moved_append}

module _ (core : Table) where
  -- the test of a state in which nothing is: its region goes on with the effects
  pub takes : (d : Configuration) (g s : ℕ) (w : Transition) (rest : List Transition) (e : Effect) (effects : List Effect) →
      is_guarded core d (around core g) ≡ false →
      standing_of d g ≡ at.Trying s (w ∷ rest) → verdict d.variables w.trigger ≡ Some true → inside core s ≡ [] → w.effects ≡ e ∷ effects →
      step core g d ≡ Some (record { variables = d.variables; regions = slice_set d.regions g (at.Acting s (e ∷ effects) w.target) })
  takes d g s w rest e effects free stands true_there alone some =
      let on : is_enabled core d g ≡ true = rw (stands, free) refl in
      let moves : taken core g s w ≡ to g (at.Acting s (e ∷ effects) w.target) ∷ [] = rw (alone, some) refl in
      let does : change_of core d g (standing_of d g) ≡ Some (record { write = None; moves = to g (at.Acting s (e ∷ effects) w.target) ∷ [] }) =
      ap (change_of core d g) stands ∙ (tested_is core d g s w (to g (at.Trying s rest) ∷ []) true true_there ∙
      ap (λ ms. Some (record { write = None; moves = ms })) moves) in
      rw (on, does) refl

  -- a test that holds, with effects or without: what is inside of its state is dropped
  pub takes_out : (d : Configuration) (g s : ℕ) (w : Transition) (rest : List Transition) → is_guarded core d (around core g) ≡ false →
      standing_of d g ≡ at.Trying s (w ∷ rest) → verdict d.variables w.trigger ≡ Some true →
      step core g d ≡ Some (record { variables = d.variables; regions = moved (acts core g s w.effects w.target) (moved (drops (inside core s)) d.regions) })
  takes_out d g s w rest free stands true_there =
      let on : is_enabled core d g ≡ true = rw (stands, free) refl in
      let does : change_of core d g (standing_of d g) ≡ Some (record { write = None; moves = taken core g s w }) =
      ap (change_of core d g) stands ∙ tested_is core d g s w (to g (at.Trying s rest) ∷ []) true true_there in
      let all : step core g d ≡ Some (record { variables = d.variables; regions = moved (taken core g s w) d.regions }) = rw (on, does) refl in
      all ∙ ap (λ zs. Some (record { variables = d.variables; regions = zs })) (moved_append (drops (inside core s))
      (acts core g s w.effects w.target) d.regions)

  pub takes_any : (d : Configuration) (g s : ℕ) (w : Transition) (rest : List Transition) → is_guarded core d (around core g) ≡ false →
      standing_of d g ≡ at.Trying s (w ∷ rest) → verdict d.variables w.trigger ≡ Some true → inside core s ≡ [] →
      step core g d ≡ Some (record { variables = d.variables; regions = moved (acts core g s w.effects w.target) d.regions })
  takes_any d g s w rest free stands true_there alone =
      takes_out d g s w rest free stands true_there
      ∙ ap (λ rs. Some (record { variables = d.variables; regions = moved (acts core g s w.effects w.target) (moved (drops rs) d.regions) })) alone

  -- an effect: the thread goes on with the others, or enters its target
  pub writes_any : (d : Configuration) (g s target : ℕ) (e : Effect) (effects : List Effect) (v : Value) → is_guarded core d (around core g) ≡ false →
      standing_of d g ≡ at.Acting s (e ∷ effects) target →
      value_of e.value d.variables ≡ Some v → takes_kind (option_map (λ z. z.kind) (slice_get core.variables e.variable)) (kind_of v) ≡ true →
      step core g d ≡ Some (record { variables = slice_set d.variables e.variable v; regions = moved (acts core g s effects target) d.regions })
  writes_any d g s target e effects v free stands is fits =
      let on : is_enabled core d g ≡ true = rw (stands, free) refl in
      let one : effected core g s e effects target v
      ≡ Some (record { write = Some (record { variable = e.variable; value = v }); moves = acts core g s effects target }) =
      rw (fits) refl in
      let does : change_of core d g (standing_of d g)
      ≡ Some (record { write = Some (record { variable = e.variable; value = v }); moves = acts core g s effects target }) =
      ap (change_of core d g) stands ∙ (ap (option_and_then (effected core g s e effects target)) is ∙ one) in
      rw (on, does) refl

  -- the last one
  pub writes_on : (d : Configuration) (g s target : ℕ) (e : Effect) (v : Value) (moves : List Move) → is_guarded core d (around core g) ≡ false →
      standing_of d g ≡ at.Acting s (e ∷ []) target →
      value_of e.value d.variables ≡ Some v → takes_kind (option_map (λ z. z.kind) (slice_get core.variables e.variable)) (kind_of v) ≡ true →
      (state_at core (state_in core g target)).entered ≡ moves →
      step core g d ≡ Some (record { variables = slice_set d.variables e.variable v; regions = moved moves d.regions })
  writes_on d g s target e v moves free stands is fits enters =
      writes_any d g s target e [] v free stands is fits
      ∙ ap (λ ms. Some (record { variables = slice_set d.variables e.variable v; regions = moved ms d.regions })) enters

  -- the same, where entering makes nothing of other regions
  pub writes_last : (d : Configuration) (g s target : ℕ) (e : Effect) (v : Value) (x : Standing) → is_guarded core d (around core g) ≡ false →
      standing_of d g ≡ at.Acting s (e ∷ []) target →
      value_of e.value d.variables ≡ Some v → takes_kind (option_map (λ z. z.kind) (slice_get core.variables e.variable)) (kind_of v) ≡ true →
      (state_at core (state_in core g target)).entered ≡ to g x ∷ [] →
      step core g d ≡ Some (record { variables = slice_set d.variables e.variable v; regions = slice_set d.regions g x })
  writes_last d g s target e v x free stands is fits enters = writes_on d g s target e v (to g x ∷ []) free stands is fits enters
