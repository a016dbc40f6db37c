-- Reports that come behind what was told before.
use Rattle.std.specs.Prelude.{ℕ, ◌≡◌, List, ◌++◌}
use Rattle.chart_warnings.specs.Reports.{AreReports, Head}

-- a report for each of these heads comes behind the old ones, and nothing else
pub record Gains (name : List ℕ) (heads : List Head) (old new : List ℕ) : Type 0 where
  pub more : List ℕ
  pub is : new ≡ old ++ more
  pub reports : AreReports name heads more
