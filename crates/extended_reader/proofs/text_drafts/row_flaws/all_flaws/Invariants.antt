use Rattle.std.proofs.Common.{◌≡◌, map, drop}
use Rattle.sc_text.specs.Told.{told_behind}
use Rattle.extended_reader.specs.Flaws.{joined, entry_flaws}
use Rattle.extended_reader.proofs.text_drafts.row_flaws.all_flaws.Given as goal

abbrev pub invariant-loop-entry : goal.invariant-loop-entry
invariant-loop-entry l =
    told_behind l.found (joined (map (entry_flaws l.scope.variables.now l.signals.variables.now l.may_last) (drop l.entry-index l.entries)))
    ≡ told_behind l.fn.found (joined (map (entry_flaws l.scope.variables.now l.signals.variables.now l.may_last) l.entries))
