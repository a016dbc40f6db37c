use Rattle.std.proofs.Common.{◌≡◌, ◌∙◌, Some, refl, sym, slice_get}
use Rattle.std.proofs.lemmas.Option.{slice_get_read}
use Rattle.extended_reader.specs.Flaws.{way_flaws}
use Rattle.extended_reader.proofs.Told.{part_told, parts_over}
use Rattle.extended_reader.proofs.text_drafts.row_flaws.each_way_flaws.Goals as goal

pub loop-way-preserved : goal.loop-way-preserved
loop-way-preserved c =
    let part = c.way-item.result in
    let is : slice_get c.args.ways.now c.loop-way.way-index ≡ Some part = slice_get_read _ _ _ _ refl c.loop-way-test.true c.way-item.is in
    part_told (way_flaws c.args.scope.now.variables.now) c.args.ways.now c.loop-way.way-index part _ _ is c.in_ok-way_flaws.ensures
    ∙ c.loop-way.invariant

pub returns : goal.returns
returns c =
    sym (parts_over (way_flaws c.args.scope.now.variables.now) c.args.ways.now c.loop-way.way-index _ c.loop-way-test.false) ∙ c.loop-way.invariant
