-- A text whose draft is flawless spells the extended chart of that draft.
use Rattle.std.proofs.Common.{◌≡◌, ℕ, List, []}
use Rattle.extended_charts.specs.declared.extended.ExtendedChart.{ExtendedChart}
use Rattle.extended_reader.specs.declared.text_drafts.draft.ExtendedDraft.{ExtendedDraft}
use Rattle.extended_reader.specs.Checked.{IsSound}
use Rattle.extended_reader.specs.Flaws.{extended_flaws}
use Rattle.extended_reader.specs.Shape.{IsExtendedShaped}
use Rattle.extended_reader.proofs.ShapedDrafts.{draft_is_shaped}
use Rattle.extended_reader.specs.Resolved.{extended_of}
use Rattle.extended_reader.specs.Read.{IsRead}

module _ (text : List ℕ) (d : ExtendedDraft) (is : IsSound text d) where
  pub unflawed : extended_flaws d ≡ []
  unflawed = is.flawless

  pub shaped : IsExtendedShaped d
  shaped = draft_is_shaped text d is.drafted

  pub is_read : (chart : ExtendedChart) → chart ≡ extended_of d → IsRead text chart
  is_read chart spelled = record { draft = d; drafted = is.drafted; flawless = is.flawless; spelled = spelled }
