use Rattle.std.proofs.Common.{◌≡◌, ◌∙◌, Some, refl, sym, slice_get}
use Rattle.std.proofs.lemmas.Option.{slice_get_read}
use Rattle.extended_reader.specs.Flaws.{entries_flaws}
use Rattle.extended_reader.proofs.Told.{part_told, parts_over}
use Rattle.extended_reader.proofs.text_drafts.row_flaws.all_entries_flaws.Goals as goal

pub loop-row-preserved : goal.loop-row-preserved
loop-row-preserved c =
    let part = c.row-item.result in
    let is : slice_get c.args.rows.now c.loop-row.row-index ≡ Some part = slice_get_read _ _ _ _ refl c.loop-row-test.true c.row-item.is in
    part_told (entries_flaws c.args.scope.now.variables.now c.args.signals.now.variables.now) c.args.rows.now c.loop-row.row-index part _ _ is
    c.in_ok-entries_flaws.ensures
    ∙ c.loop-row.invariant

pub returns : goal.returns
returns c =
    sym (parts_over (entries_flaws c.args.scope.now.variables.now c.args.signals.now.variables.now) c.args.rows.now c.loop-row.row-index
    _ c.loop-row-test.false)
    ∙ c.loop-row.invariant
