-- A text whose draft is flawless spells the chart of that draft.
use Rattle.std.proofs.Common.{◌≡◌, ℕ, List, []}
use Rattle.core_charts.specs.Chart.{Chart}
use Rattle.chart_reader.specs.declared.text_drafts.draft.DraftChart.{DraftChart}
use Rattle.chart_reader.specs.Checked.{IsSound}
use Rattle.chart_reader.specs.Flaws.{chart_flaws}
use Rattle.chart_reader.specs.Shape.{IsShaped}
use Rattle.chart_reader.proofs.ShapedDrafts.{draft_is_shaped}
use Rattle.chart_reader.specs.Resolved.{chart_of}
use Rattle.chart_reader.specs.Read.{IsRead}

module _ (text : List ℕ) (d : DraftChart) (is : IsSound text d) where
  pub unflawed : chart_flaws d ≡ []
  unflawed = is.flawless

  pub shaped : IsShaped d
  shaped = draft_is_shaped text d is.drafted

  pub is_read : (chart : Chart) → chart ≡ chart_of d → IsRead text chart
  is_read chart spelled = record { draft = d; drafted = is.drafted; flawless = is.flawless; spelled = spelled }
