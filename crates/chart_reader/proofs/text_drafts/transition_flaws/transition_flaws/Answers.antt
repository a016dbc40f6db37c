use Rattle.std.proofs.Common.{◌≡◌, ◌∙◌, Some, refl, slice_get}
use Rattle.std.proofs.lemmas.Option.{slice_get_read}
use Rattle.chart_reader.proofs.Flawed.{transition_noted}
use Rattle.chart_reader.proofs.text_drafts.transition_flaws.transition_flaws.Goals as goal

pub loop-at-preserved : goal.loop-at-preserved
loop-at-preserved c =
    let transition = c.index-transitions-at.result in
    let is : slice_get c.args.transitions.now c.loop-at.at ≡ Some transition = slice_get_read _ _ _ _ refl c.loop-at-test.true c.index-transitions-at.is in
    transition_noted c.args.scope.now.variables.now c.args.states.now.names c.args.is_superstate c.loop-at.is_behind_join _ c.args.transitions.now c.loop-at.at
    transition _ _ _ _ _ _ _ _ _ is
    c.is_full-is_past.ensures c.in_ok-note_told.ensures c.in_ok-kind_flaws.ensures c.in_ok-trigger_flaws.ensures c.as_slice.ensures c.in_ok-effect_flaws.ensures
    c.has-is_unknown.ensures c.in_ok-note_told-2.ensures c.is_past_join-is_behind_join.ensures
    ∙ c.loop-at.invariant
