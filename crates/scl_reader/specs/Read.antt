-- What a text is read into: the program that it spells.
use Rattle.std.specs.Prelude.{ℕ, ◌≡◌, List, []}
use Rattle.scl.specs.declared.program.Scl.{Scl}
use Rattle.scl_reader.specs.declared.text_drafts.draft.Draft.{Draft}
use Rattle.scl_reader.specs.Draft.{IsDraft}
use Rattle.scl_reader.specs.Flaws.{scl_flaws}
use Rattle.scl_reader.specs.Resolved.{IsProgramOf}

-- the text is one of the grammar that keeps the rules, and spells this program: it has a draft, in which nothing is wrong
pub record IsRead (text : List ℕ) (program : Scl) : Type 0 where
  pub draft : Draft
  pub drafted : IsDraft text draft
  pub flawless : scl_flaws draft ≡ []
  pub spelled : IsProgramOf draft program
