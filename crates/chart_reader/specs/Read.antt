-- What a text is read into: the chart that it spells.
use Rattle.std.specs.Prelude.{ℕ, ◌≡◌, List, []}
use Rattle.core_charts.specs.Chart.{Chart}
use Rattle.chart_reader.specs.declared.text_drafts.draft.DraftChart.{DraftChart}
use Rattle.chart_reader.specs.Reading.{IsDraft}
use Rattle.chart_reader.specs.Flaws.{chart_flaws}
use Rattle.chart_reader.specs.Resolved.{chart_of}

-- the text is one of the grammar that keeps the rules, and spells this chart: it has a draft, in which nothing is wrong
pub record IsRead (text : List ℕ) (chart : Chart) : Type 0 where
  pub draft : DraftChart
  pub drafted : IsDraft text draft
  pub flawless : chart_flaws draft ≡ []
  pub spelled : chart ≡ chart_of draft
