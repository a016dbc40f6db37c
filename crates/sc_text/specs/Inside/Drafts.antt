-- What functions that note flaws say of themselves. It is proved, and no public contract rests on what it means.
use Rattle.std.specs.Prelude.{Option, Some, None, List}
use Rattle.sc_text.specs.declared.drafts.flaw.Flaw.{Flaw}
use Rattle.sc_text.specs.Told.{inserted}

-- a flaw that may still have to be put at its place
abbrev pub placed : Option Flaw → List Flaw → List Flaw
placed None found = found
placed (Some f) found = inserted f found
