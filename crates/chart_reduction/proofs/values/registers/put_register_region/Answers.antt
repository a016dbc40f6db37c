use Rattle.std.proofs.Common.{◌≡◌, ℕ, [], ◌∷◌, ◌++◌, OnOk, List, subst, ap, ◌∙◌}
use Rattle.std.specs.Prelude.{codes}
use Rattle.extended_charts.specs.declared.extended.ExtendedRegion.{ExtendedRegion}
use Rattle.extended_charts.specs.declared.extended.ExtendedState.{ExtendedState}
use Rattle.extended_charts.specs.Making.{region}
use Rattle.chart_reduction.specs.Registers.{register_states}
use Rattle.chart_reduction.proofs.values.registers.put_register_region.Goals as goal

pub returns : goal.returns
returns c =
    let states : List ExtendedState = register_states c.args.variables c.args.befores.now in
    let made : c.put_register_states.new.made ≡ states =
    c.in_ok-put_register_states.ensures ∙ ap (λ (before : List ExtendedState). before ++ states) c.new-states.ensures in
    subst (λ (r : ExtendedRegion). OnOk c.push.result (c.push.new.self ≡ c.args.made.now ++ r ∷ []))
    (ap (λ (name : List ℕ). region name c.put_register_states.new.made) c.plain.ensures ∙ ap (region (codes "registers__1")) made) c.push.ensures.ok
