-- What is told of the text of an extended chart: a report for each warning of the chart to which it is reduced that speaks of what is
-- the author's, at its place in his text, where the line of that does not allow it.
use Rattle.std.specs.Prelude.{ℕ, ◌≡◌, ◌⊎◌, List, []}
use Rattle.sc_text.specs.declared.read_fault.FaultKind.{FaultKind}
use Rattle.sc_text.specs.declared.read_fault.ReadFault.TheVariants as fault
use Rattle.core_charts.specs.Chart.{Chart}
use Rattle.chart_reduction.specs.declared.rows.AuthorRows.{AuthorRows}
use Rattle.chart_reduction.specs.declared.fault.ReduceFault.TheVariants as reduce
use Rattle.chart_reduction.specs.Reduction.{IsReduction, LacksChart}
use Rattle.extended_reader.specs.declared.text_drafts.draft.ExtendedDraft.{ExtendedDraft}
use Rattle.extended_reader.specs.Checked.{IsSound, IsTextFault}
use Rattle.extended_reader.specs.Resolved.{extended_of}
use Rattle.chart_warnings.specs.Warnings.{warnings_of}
use Rattle.chart_warnings.specs.Reports.{AreReports, heads_of}
use Rattle.chart_warnings.specs.ExtendedPlaces.{author_places}
use Rattle.chart_warnings.specs.Author.{author_warnings}

-- the text spells an extended chart without a fault, which is reduced to this chart, and the reports are those of the warnings of that
-- which speak of what is the author's
pub record WarnsAuthor (name text told : List ℕ) : Type 0 where
  pub draft : ExtendedDraft
  pub sound : IsSound text draft
  pub chart : Chart
  pub rows : AuthorRows
  pub reduction : IsReduction (extended_of draft) chart rows
  pub reports : AreReports name
      (heads_of text (author_places draft) (author_warnings rows.states (author_places draft) (warnings_of chart))) told

-- the text has a fault
pub record HasFault (text : List ℕ) : Type 0 where
  pub broken : FaultKind
  pub at : ℕ
  pub faulty : IsTextFault text (fault.Text broken at)

-- it spells an extended chart that is reduced past a limit
pub record PassesLimit (text : List ℕ) : Type 0 where
  pub draft : ExtendedDraft
  pub sound : IsSound text draft
  pub none : LacksChart (extended_of draft) reduce.Limit

-- the text is reduced to no chart, and nothing is told
pub record IsSilentOfAuthor (text told : List ℕ) : Type 0 where
  pub why : HasFault text ⊎ PassesLimit text
  pub nothing : told ≡ []

-- what is told of a text, whichever it is
abbrev pub IsToldOfAuthor : (name text told : List ℕ) → Type 0
IsToldOfAuthor name text told = WarnsAuthor name text told ⊎ IsSilentOfAuthor text told
