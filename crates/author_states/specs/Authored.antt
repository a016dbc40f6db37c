-- What is written as the text of an extended chart, the text of the chart to which that is reduced, and the states of its author.
use Rattle.std.specs.Prelude.{ℕ, ◌≡◌, List}
use Rattle.std.specs.Str.{IsUtf8}
use Rattle.author_states.specs.Author.{AuthorsStates, author_states}
use Rattle.extended_charts.specs.declared.extended.ExtendedChart.{ExtendedChart}
use Rattle.extended_reader.specs.Read.{IsRead}
use Rattle.chart_texts.specs.FirstWord.{BeginsExtended}
use Rattle.chart_texts.specs.ReducedText.{IsReducedText}

-- these bytes are text, which spells an extended chart, to the chart of this text it is reduced, and these are its author's states
pub record HasAuthored (written source : List ℕ) (states : AuthorsStates) : Type 0 where
  pub is_text : IsUtf8 written
  pub chart : ExtendedChart
  pub read : IsRead written chart
  pub reduced : IsReducedText chart source
  pub states_are : states ≡ author_states chart

-- and they begin as the text of one
pub record IsAuthored (written source : List ℕ) (states : AuthorsStates) : Type 0 where
  pub begins : BeginsExtended written
  pub has : HasAuthored written source states
