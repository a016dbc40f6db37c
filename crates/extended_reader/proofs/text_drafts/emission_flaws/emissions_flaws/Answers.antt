use Rattle.std.proofs.Common.{◌≡◌, ◌∙◌, Some, refl, sym, slice_get}
use Rattle.std.proofs.lemmas.Option.{slice_get_read}
use Rattle.extended_reader.specs.Flaws.{emission_flaws}
use Rattle.extended_reader.proofs.Told.{part_told, parts_over}
use Rattle.extended_reader.proofs.text_drafts.emission_flaws.emissions_flaws.Goals as goal

pub loop-effect-preserved : goal.loop-effect-preserved
loop-effect-preserved c =
    let part = c.effect-item.result in
    let is : slice_get c.args.effects.now c.loop-effect.effect-index ≡ Some part = slice_get_read _ _ _ _ refl c.loop-effect-test.true c.effect-item.is in
    part_told (emission_flaws c.args.signals.now.variables.now) c.args.effects.now c.loop-effect.effect-index part _ _ is c.in_ok-emission_flaws.ensures
    ∙ c.loop-effect.invariant

pub returns : goal.returns
returns c =
    sym (parts_over (emission_flaws c.args.signals.now.variables.now) c.args.effects.now c.loop-effect.effect-index _ c.loop-effect-test.false)
    ∙ c.loop-effect.invariant
