-- The text of the chart to which an extended chart is reduced.
use Rattle.std.specs.Prelude.{ℕ, ◌≡◌, ◌⊎◌, Option, Some, None, List}
use Rattle.core_charts.specs.declared.features.Features.TheVariants as features
use Rattle.core_charts.specs.Rules.{IsChart}
use Rattle.chart_reader.specs.Read.{IsRead}
use Rattle.chart_texts.specs.Layout.{chart_text}
use Rattle.extended_charts.specs.declared.extended.ExtendedChart.{ExtendedChart}
use Rattle.chart_reduction.specs.Reduction.{reduced}

-- the text of the chart to which it is reduced, and what a reader of texts takes it for: that chart
pub record IsReducedText (c : ExtendedChart) (text : List ℕ) : Type 0 where
  pub is : text ≡ chart_text (reduced c)
  pub spells : IsRead text (reduced c)

-- there is none: what it is reduced to breaks a rule or a limit of charts, or a reader takes its text for another one
abbrev pub LacksReducedText : ExtendedChart → Type 0
LacksReducedText c = ¬ IsChart features.Extended (reduced c) ⊎ ¬ IsRead (chart_text (reduced c)) (reduced c)

abbrev pub Answers : ExtendedChart → Option (List ℕ) → Type 0
Answers c (Some text) = IsReducedText c text
Answers c None = LacksReducedText c
