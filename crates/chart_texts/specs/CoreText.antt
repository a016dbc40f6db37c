-- The text of the core chart of a chart.
use Rattle.std.specs.Prelude.{ℕ, ◌≡◌, ◌⊎◌, Option, Some, None, List}
use Rattle.core_charts.specs.declared.features.Features.TheVariants as features
use Rattle.core_charts.specs.Chart.{Chart}
use Rattle.core_charts.specs.Rules.{IsChart}
use Rattle.abort_expansion.specs.Expansion.{IsExpandable, expanded}
use Rattle.chart_reader.specs.Read.{IsRead}
use Rattle.chart_texts.specs.Layout.{chart_text}
use Rattle.chart_texts.specs.Renaming.{shown}

-- the text of a chart, where it spells that chart, as a reader of texts takes it
abbrev pub Spells : Chart → Option (List ℕ) → Type 0
Spells c (Some text) = (text ≡ chart_text c) × IsRead text c
Spells c None = ¬ IsRead (chart_text c) c

-- the text of the core chart as texts have it, and what a reader of texts takes it for: that chart
pub record IsCoreText (c : Chart) (text : List ℕ) : Type 0 where
  pub expandable : IsExpandable c
  pub is : text ≡ chart_text (shown (expanded c))
  pub spells : IsRead text (shown (expanded c))

-- the core chart has no text: so it breaks a rule or a limit of chart text, or a reader takes its text for another one
pub record LacksCoreText (c : Chart) : Type 0 where
  pub expandable : IsExpandable c
  pub none : ¬ IsChart features.Extended (shown (expanded c)) ⊎ ¬ IsRead (chart_text (shown (expanded c))) (shown (expanded c))

abbrev pub Answers : Chart → Option (List ℕ) → Type 0
Answers c (Some text) = IsCoreText c text
Answers c None = LacksCoreText c
