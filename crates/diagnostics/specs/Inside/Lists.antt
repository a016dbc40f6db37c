-- Reports that are being put one behind the other. No public contract rests on it.
use Rattle.std.specs.Prelude.{ℕ, List, ◌++◌}
use Rattle.sc_text.specs.declared.drafts.flaw.Flaw.{Flaw}
use Rattle.diagnostics.specs.ListReports.{AreReports}

-- whatever is told of the flaws that are left makes, behind what was told, the reports of all
pub record Goes (name text : List ℕ) (left all : List Flaw) (told : List ℕ) : Type 0 where
  pub on : (more : List ℕ) → AreReports name text left more → AreReports name text all (told ++ more)
