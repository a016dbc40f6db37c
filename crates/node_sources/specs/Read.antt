-- What a text is read into, with places: the chart that it spells, and where its elements stand.
use Rattle.std.specs.Prelude.{ℕ, ◌≡◌, List, []}
use Rattle.core_charts.specs.Chart.{Chart}
use Rattle.chart_reader.specs.declared.text_drafts.draft.DraftChart.{DraftChart}
use Rattle.chart_reader.specs.Reading.{IsDraft}
use Rattle.chart_reader.specs.Flaws.{chart_flaws}
use Rattle.chart_reader.specs.Resolved.{chart_of}
use Rattle.node_sources.specs.declared.chart_places.places.Places.{Places}
use Rattle.node_sources.specs.Places.{places_of}

-- the text has a draft, in which nothing is wrong; it is this chart, and its elements have these places
pub record IsPlaced (text : List ℕ) (chart : Chart) (places : Places) : Type 0 where
  pub draft : DraftChart
  pub drafted : IsDraft text draft
  pub flawless : chart_flaws draft ≡ []
  pub spelled : chart ≡ chart_of draft
  pub placed : places ≡ places_of draft
