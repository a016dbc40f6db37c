use Rattle.std.proofs.Common.{◌≡◌, drop}
use Rattle.sc_text.specs.Told.{told_behind}
use Rattle.scl_reader.specs.Flaws.{names, lost}
use Rattle.scl_reader.proofs.text_drafts.labels.note_lost.Given as goal

abbrev pub invariant-loop-at : goal.invariant-loop-at
invariant-loop-at l =
    told_behind l.told (lost (names l.labels) (drop l.at l.gotos)) ≡ told_behind l.fn.told (lost (names l.labels) l.gotos)
