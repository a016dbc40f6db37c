-- The warnings of what is written in a file: of the text of an extended chart those that speak of what is its author's, at their places
-- in that text, and of any other text those of the chart that it spells.
use Rattle.std.specs.Prelude.{ℕ, ◌⊎◌, List}
use Rattle.chart_texts.specs.FirstWord.{BeginsExtended}
use Rattle.chart_warnings.specs.ExtendedReports.{IsToldOfAuthor}
use Rattle.chart_warnings.specs.Reports.{IsTold}

-- what is written begins as the text of an extended chart
pub record IsWarnedOfAuthor (name written told : List ℕ) : Type 0 where
  pub begins : BeginsExtended written
  pub told_so : IsToldOfAuthor name written told

-- it begins as another text
pub record IsWarnedOfChart (name written told : List ℕ) : Type 0 where
  pub other : ¬ BeginsExtended written
  pub told_so : IsTold name written told

abbrev pub IsWarned : (name written told : List ℕ) → Type 0
IsWarned name written told = IsWarnedOfAuthor name written told ⊎ IsWarnedOfChart name written told
