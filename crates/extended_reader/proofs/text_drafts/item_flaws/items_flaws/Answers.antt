use Rattle.std.proofs.Common.{◌≡◌, ◌∙◌, Some, refl, sym, slice_get}
use Rattle.std.proofs.lemmas.Option.{slice_get_read}
use Rattle.extended_reader.specs.Flaws.{item_flaws}
use Rattle.extended_reader.proofs.Told.{part_told, parts_over}
use Rattle.extended_reader.proofs.text_drafts.item_flaws.items_flaws.Goals as goal

pub loop-item-preserved : goal.loop-item-preserved
loop-item-preserved c =
    let part = c.item-item.result in
    let is : slice_get c.args.items.now c.loop-item.item-index ≡ Some part = slice_get_read _ _ _ _ refl c.loop-item-test.true c.item-item.is in
    part_told (item_flaws c.args.scope.now.variables.now) c.args.items.now c.loop-item.item-index part _ _ is c.in_ok-item_flaws.ensures ∙ c.loop-item.invariant

pub returns : goal.returns
returns c =
    sym (parts_over (item_flaws c.args.scope.now.variables.now) c.args.items.now c.loop-item.item-index _ c.loop-item-test.false) ∙ c.loop-item.invariant
