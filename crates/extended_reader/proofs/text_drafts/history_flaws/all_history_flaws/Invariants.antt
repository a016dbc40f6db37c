use Rattle.std.proofs.Common.{◌≡◌, drop}
use Rattle.sc_text.specs.Told.{told_behind}
use Rattle.extended_reader.specs.Flaws.{history_flaws}
use Rattle.extended_reader.proofs.text_drafts.history_flaws.all_history_flaws.Given as goal

abbrev pub invariant-loop-way : goal.invariant-loop-way
invariant-loop-way l =
    told_behind l.found (history_flaws (drop l.way-index l.ways) l.left) ≡ told_behind l.fn.found (history_flaws l.ways l.places)
