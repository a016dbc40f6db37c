-- A text whose draft is flawless spells the program of that draft.
use Rattle.std.proofs.Common.{◌≡◌, ℕ, List, []}
use Rattle.scl.specs.declared.program.Scl.{Scl}
use Rattle.scl_reader.specs.declared.text_drafts.draft.Draft.{Draft}
use Rattle.scl_reader.specs.Checked.{IsFlawless}
use Rattle.scl_reader.specs.Flaws.{scl_flaws}
use Rattle.scl_reader.specs.Shape.{IsShaped}
use Rattle.scl_reader.proofs.ShapedDrafts.{draft_is_shaped}
use Rattle.scl_reader.specs.Resolved.{IsProgramOf}
use Rattle.scl_reader.specs.Read.{IsRead}

module _ (text : List ℕ) (d : Draft) (is : IsFlawless text d) where
  pub unflawed : scl_flaws d ≡ []
  unflawed = is.flawless

  pub shaped : IsShaped d
  shaped = draft_is_shaped text d is.drafted

  pub is_read : (program : Scl) → IsProgramOf d program → IsRead text program
  is_read program spelled = record { draft = d; drafted = is.drafted; flawless = is.flawless; spelled = spelled }
