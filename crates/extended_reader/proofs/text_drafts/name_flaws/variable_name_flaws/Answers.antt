use Rattle.std.proofs.Common.{◌≡◌, ◌∙◌, Some, refl, sym, slice_get}
use Rattle.std.proofs.lemmas.Option.{slice_get_read}
use Rattle.extended_reader.specs.Flaws.{name_flaws}
use Rattle.extended_reader.proofs.Told.{part_told, parts_over}
use Rattle.extended_reader.proofs.text_drafts.name_flaws.variable_name_flaws.Goals as goal

pub loop-variable-preserved : goal.loop-variable-preserved
loop-variable-preserved c =
    let part = c.variable-item.result in
    let is : slice_get c.args.variables.now c.loop-variable.variable-index ≡ Some part =
    slice_get_read _ _ _ _ refl c.loop-variable-test.true c.variable-item.is in
    part_told (λ x. name_flaws x.named) c.args.variables.now c.loop-variable.variable-index part _ _ is c.in_ok-name_flaws.ensures ∙ c.loop-variable.invariant

pub returns : goal.returns
returns c =
    sym (parts_over (λ x. name_flaws x.named) c.args.variables.now c.loop-variable.variable-index _ c.loop-variable-test.false) ∙ c.loop-variable.invariant
