-- What holds of the grammar of charts as a whole, and of each draft that it gives.
use Rattle.std.specs.Prelude.{ℕ, ◌≡◌, List, []}
use Rattle.grammar.specs.Grammar.{spells}
use Rattle.grammar.specs.Read.{Flaw, Got, Failed, read_all}
use Rattle.grammar.specs.Fault.{Fault, Told}
use Rattle.sc_text.specs.declared.token.Token.{Token}
use Rattle.chart_reader.specs.declared.text_drafts.draft.DraftChart.{DraftChart}
use Rattle.chart_reader.specs.ChartText.{chart_text}
use Rattle.chart_reader.specs.Reading.{IsDraft}
use Rattle.chart_reader.specs.Shape.{IsShaped}

-- each list of tokens is told: what it spells, or its one fault
pub record TextsAreTold : Type 0 where
  pub told : (text : List Token) → Told chart_text text (read_all (chart_text 0) text)
  pub spelled : (text : List Token) (d : DraftChart) → spells (chart_text 0) text d → read_all (chart_text 0) text ≡ Got d []
  pub faulty : (text rest : List Token) (flaw : Flaw) → Fault chart_text text flaw rest → read_all (chart_text 0) text ≡ Failed flaw rest

-- each draft of a text keeps what the grammar alone gives
pub record DraftsAreShaped : Type 0 where
  pub shaped : (text : List ℕ) (d : DraftChart) → IsDraft text d → IsShaped d
