use Rattle.std.proofs.Common.{◌≡◌, drop}
use Rattle.sc_text.specs.Told.{told_behind}
use Rattle.scl_reader.specs.Flaws.{names, repeated}
use Rattle.scl_reader.proofs.text_drafts.labels.note_each_repeated.Given as goal

abbrev pub invariant-loop-at : goal.invariant-loop-at
invariant-loop-at l =
    told_behind l.told (repeated (names l.labels) l.at (drop l.at l.labels)) ≡ told_behind l.fn.told (repeated (names l.labels) 0 l.labels)
