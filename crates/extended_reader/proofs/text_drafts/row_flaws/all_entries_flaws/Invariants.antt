use Rattle.std.proofs.Common.{◌≡◌, map, drop}
use Rattle.sc_text.specs.Told.{told_behind}
use Rattle.extended_reader.specs.Flaws.{joined, entries_flaws}
use Rattle.extended_reader.proofs.text_drafts.row_flaws.all_entries_flaws.Given as goal

abbrev pub invariant-loop-row : goal.invariant-loop-row
invariant-loop-row l =
    told_behind l.found (joined (map (entries_flaws l.scope.variables.now l.signals.variables.now) (drop l.row-index l.rows)))
    ≡ told_behind l.fn.found (joined (map (entries_flaws l.scope.variables.now l.signals.variables.now) l.rows))
