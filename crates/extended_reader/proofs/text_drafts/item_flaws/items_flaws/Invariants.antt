use Rattle.std.proofs.Common.{◌≡◌, map, drop}
use Rattle.sc_text.specs.Told.{told_behind}
use Rattle.extended_reader.specs.Flaws.{joined, item_flaws}
use Rattle.extended_reader.proofs.text_drafts.item_flaws.items_flaws.Given as goal

abbrev pub invariant-loop-item : goal.invariant-loop-item
invariant-loop-item l =
    told_behind l.found (joined (map (item_flaws l.scope.variables.now) (drop l.item-index l.items)))
    ≡ told_behind l.fn.found (joined (map (item_flaws l.scope.variables.now) l.items))
