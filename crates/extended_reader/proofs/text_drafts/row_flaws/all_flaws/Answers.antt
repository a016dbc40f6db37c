use Rattle.std.proofs.Common.{◌≡◌, ◌∙◌, Some, refl, sym, slice_get}
use Rattle.std.proofs.lemmas.Option.{slice_get_read}
use Rattle.extended_reader.specs.Flaws.{entry_flaws}
use Rattle.extended_reader.proofs.Told.{part_told, parts_over}
use Rattle.extended_reader.proofs.text_drafts.row_flaws.all_flaws.Goals as goal

pub loop-entry-preserved : goal.loop-entry-preserved
loop-entry-preserved c =
    let part = c.entry-item.result in
    let is : slice_get c.args.entries.now c.loop-entry.entry-index ≡ Some part = slice_get_read _ _ _ _ refl c.loop-entry-test.true c.entry-item.is in
    part_told (entry_flaws c.args.scope.now.variables.now c.args.signals.now.variables.now c.args.may_last) c.args.entries.now c.loop-entry.entry-index
    part _ _ is c.in_ok-entry_flaws.ensures
    ∙ c.loop-entry.invariant

pub returns : goal.returns
returns c =
    sym (parts_over (entry_flaws c.args.scope.now.variables.now c.args.signals.now.variables.now c.args.may_last) c.args.entries.now c.loop-entry.entry-index
    _ c.loop-entry-test.false)
    ∙ c.loop-entry.invariant
