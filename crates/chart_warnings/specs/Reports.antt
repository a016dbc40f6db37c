-- What is told of a text: a report for each warning that its line does not allow.
use Rattle.std.specs.Prelude.{ℕ, ◌≡◌, ◌⊎◌, IsTrue, List, [], ◌∷◌, ◌++◌, codes, if◌then◌else◌}
use Rattle.std.specs.List.{flat_map}
use Rattle.sc_text.specs.declared.read_fault.FaultKind.{FaultKind}
use Rattle.sc_text.specs.declared.read_fault.ReadFault.TheVariants as fault
use Rattle.chart_reader.specs.declared.text_drafts.draft.DraftChart.{DraftChart}
use Rattle.chart_reader.specs.Checked.{IsSound, IsTextFault}
use Rattle.chart_reader.specs.Resolved.{chart_of}
use Rattle.chart_warnings.specs.declared.warning.Warning.{Warning}
use Rattle.chart_warnings.specs.Warnings.{warnings_of}
use Rattle.diagnostics.specs.Reports.{place_shown}
use Rattle.chart_warnings.specs.declared.texts.places.ChartPlaces.{ChartPlaces}
use Rattle.chart_warnings.specs.Allowance.{code_text, is_allowed}
use Rattle.chart_warnings.specs.Lines.{are_lines}
use Rattle.chart_warnings.specs.Places.{place_of, places_of}

-- how a report begins behind the name: its place and its code, as in `lift.chart:12:5: W01: `
pub record Head : Type 0 where
  pub place : List ℕ
  pub code : List ℕ

-- that of a warning whose place is this; none where it is allowed there
abbrev pub heads_at : (text : List ℕ) → ℕ → Warning → List Head
heads_at text at w = if is_allowed text at w then [] else record { place = place_shown text at; code = code_text w } ∷ []

-- those of warnings, in their order
abbrev pub heads_of : (text : List ℕ) → ChartPlaces → List Warning → List Head
heads_of text places warnings = flat_map (λ w. heads_at text (place_of places w) w) warnings

-- the report begins with this name and so, and behind that it says four lines: what is warned of, the line of the text,
-- the mark below it, and what helps. Their words are left open
pub record IsReport (name : List ℕ) (head : Head) (report : List ℕ) : Type 0 where
  pub said : List ℕ
  pub is : report ≡ name ++ (head.place ++ (codes ": " ++ (head.code ++ (codes ": " ++ said))))
  pub lines : IsTrue (are_lines 4 said)

-- a report for each of these heads, one behind the other, and nothing else
abbrev pub AreReports : (name : List ℕ) → List Head → (told : List ℕ) → Type 0
AreReports name [] told = told ≡ []
AreReports name (head ∷ heads) told =
    (report : List ℕ) × (others : List ℕ) × IsReport name head report × AreReports name heads others × (told ≡ report ++ others)

-- the text spells a chart without a fault, and the reports are those of its warnings
pub record Warns (name text told : List ℕ) : Type 0 where
  pub draft : DraftChart
  pub sound : IsSound text draft
  pub reports : AreReports name (heads_of text (places_of draft) (warnings_of (chart_of draft))) told

-- the text spells no such chart, and nothing is told
pub record IsSilent (text told : List ℕ) : Type 0 where
  pub broken : FaultKind
  pub at : ℕ
  pub faulty : IsTextFault text (fault.Text broken at)
  pub nothing : told ≡ []

-- what is told of a text, whichever it is
abbrev pub IsTold : (name text told : List ℕ) → Type 0
IsTold name text told = Warns name text told ⊎ IsSilent text told
