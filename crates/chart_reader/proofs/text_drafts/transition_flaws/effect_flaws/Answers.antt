use Rattle.std.proofs.Common.{◌≡◌, ◌∙◌, Some, refl, slice_get}
use Rattle.std.proofs.lemmas.Option.{slice_get_read}
use Rattle.chart_reader.proofs.Flawed.{effect_noted}
use Rattle.chart_reader.proofs.text_drafts.transition_flaws.effect_flaws.Goals as goal

pub loop-at-preserved : goal.loop-at-preserved
loop-at-preserved c =
    let effect = c.index-effects-at.result in
    let is : slice_get c.args.effects.now c.loop-at.at ≡ Some effect = slice_get_read _ _ _ _ refl c.loop-at-test.true c.index-effects-at.is in
    effect_noted c.args.scope.now.variables.now c.args.effects.now c.loop-at.at effect _ _ _ _ is
    c.is_full-is_past.ensures c.in_ok-note_told.ensures c.in_ok-tell_assignment.ensures
    ∙ c.loop-at.invariant
