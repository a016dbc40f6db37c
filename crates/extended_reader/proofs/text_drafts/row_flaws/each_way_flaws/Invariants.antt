use Rattle.std.proofs.Common.{◌≡◌, map, drop}
use Rattle.sc_text.specs.Told.{told_behind}
use Rattle.extended_reader.specs.Flaws.{joined, way_flaws}
use Rattle.extended_reader.proofs.text_drafts.row_flaws.each_way_flaws.Given as goal

abbrev pub invariant-loop-way : goal.invariant-loop-way
invariant-loop-way l =
    told_behind l.found (joined (map (way_flaws l.scope.variables.now) (drop l.way-index l.ways)))
    ≡ told_behind l.fn.found (joined (map (way_flaws l.scope.variables.now) l.ways))
