use Rattle.std.proofs.Common.{◌≡◌, ◌∙◌, Some, refl, sym, ap, slice_get}
use Rattle.std.proofs.lemmas.Option.{slice_get_read}
use Rattle.sc_text.specs.Told.{told_behind}
use Rattle.extended_reader.specs.Flaws.{emissions_flaws}
use Rattle.extended_reader.proofs.Told.{part_told, parts_over}
use Rattle.extended_reader.proofs.text_drafts.emission_flaws.ways_flaws.Goals as goal

pub loop-transition-preserved : goal.loop-transition-preserved
loop-transition-preserved c =
    let part = c.transition-item.result in
    let is : slice_get c.args.transitions.now c.loop-transition.transition-index ≡ Some part =
    slice_get_read _ _ _ _ refl c.loop-transition-test.true c.transition-item.is in
    let told : c.emissions_flaws.new.found ≡ told_behind c.loop-transition.found (emissions_flaws c.args.signals.now.variables.now part.effects) =
    c.in_ok-emissions_flaws.ensures ∙ ap (λ l. told_behind c.loop-transition.found (emissions_flaws c.args.signals.now.variables.now l)) c.as_slice.ensures in
    part_told (λ t. emissions_flaws c.args.signals.now.variables.now t.effects) c.args.transitions.now c.loop-transition.transition-index part _ _ is told
    ∙ c.loop-transition.invariant

pub returns : goal.returns
returns c =
    sym (parts_over (λ t. emissions_flaws c.args.signals.now.variables.now t.effects) c.args.transitions.now c.loop-transition.transition-index
    _ c.loop-transition-test.false)
    ∙ c.loop-transition.invariant
