-- What is told of a text that is refused: the report of its fault, and behind it those of the other flaws of its draft.
use Rattle.std.specs.Prelude.{ℕ, ◌≡◌, ◌⊎◌, List, [], ◌∷◌, ◌++◌, codes, drop}
use Rattle.std.specs.Fmt.{decimal}
use Rattle.sc_text.specs.FaultText.{broken_number}
use Rattle.sc_text.specs.declared.read_fault.FaultKind.{FaultKind}
use Rattle.sc_text.specs.declared.read_fault.ReadFault.{ReadFault}
use Rattle.sc_text.specs.declared.read_fault.ReadFault.TheVariants as read
use Rattle.sc_text.specs.declared.drafts.flaw.Flaw.{Flaw}
use Rattle.sc_text.specs.Told.{told_of}
use Rattle.scl_reader.specs.declared.text_drafts.draft.Draft.{Draft}
use Rattle.scl_reader.specs.Flaws.{scl_flaws}
use Rattle.scl_reader.specs.Draft as programs
use Rattle.chart_reader.specs.declared.text_drafts.draft.DraftChart.{DraftChart}
use Rattle.chart_reader.specs.Flaws.{chart_flaws}
use Rattle.chart_reader.specs.Reading as charts
use Rattle.extended_reader.specs.declared.text_drafts.draft.ExtendedDraft.{ExtendedDraft}
use Rattle.extended_reader.specs.Flaws.{extended_flaws}
use Rattle.extended_reader.specs.Reading as extended
use Rattle.diagnostics.specs.Continuations.{IsReadBy}
use Rattle.diagnostics.specs.declared.could_follow.grammars.Grammar.{Grammar}
use Rattle.diagnostics.specs.declared.could_follow.grammars.Grammar.TheVariants as grammars
use Rattle.diagnostics.specs.Reports.{Tells, TellsAt, TellsPlace, place_shown, text_fault}

-- a report for each of these flaws, with its line and column, one behind the other, and nothing else
abbrev pub AreReports : (name text : List ℕ) → List Flaw → (told : List ℕ) → Type 0
AreReports name text [] told = told ≡ []
AreReports name text (f ∷ flaws) told =
    (report : List ℕ) × (others : List ℕ)
    × TellsAt name (place_shown text f.at) (codes "E0" ++ decimal (broken_number f.broken)) report
    × AreReports name text flaws others × (told ≡ report ++ others)

-- the text spells a chart, an extended chart, or an SCL program, and these are the flaws of its draft that are told
pub record AreOfChart (text : List ℕ) (told : List Flaw) : Type 0 where
  pub draft : DraftChart
  pub drafted : charts.IsDraft text draft
  pub all : told ≡ told_of (chart_flaws draft)

pub record AreOfExtended (text : List ℕ) (told : List Flaw) : Type 0 where
  pub draft : ExtendedDraft
  pub drafted : extended.IsExtendedDraft text draft
  pub all : told ≡ told_of (extended_flaws draft)

pub record AreOfProgram (text : List ℕ) (told : List Flaw) : Type 0 where
  pub draft : Draft
  pub drafted : programs.IsDraft text draft
  pub all : told ≡ told_of (scl_flaws draft)

-- so of a text of this grammar
abbrev pub AreOfDraft : Grammar → (text : List ℕ) → List Flaw → Type 0
AreOfDraft grammars.Chart text told = AreOfChart text told
AreOfDraft grammars.ExtendedChart text told = AreOfExtended text told
AreOfDraft grammars.Scl text told = AreOfProgram text told

-- why a text of this grammar has no draft
abbrev pub IsDraftFault : Grammar → List ℕ → ReadFault → Type 0
IsDraftFault grammars.Chart text f = charts.IsDraftFault text f
IsDraftFault grammars.ExtendedChart text f = extended.IsDraftFault text f
IsDraftFault grammars.Scl text f = programs.IsDraftFault text f

-- a text of this grammar has no draft, and no flaws are told
pub record AreNone (g : Grammar) (text : List ℕ) (told : List Flaw) : Type 0 where
  pub broken : FaultKind
  pub at : ℕ
  pub undrafted : IsDraftFault g text (read.Text broken at)
  pub none : told ≡ []

-- the flaws of a text that are told, by the grammar that its first token tells
pub record AreTold (text : List ℕ) (told : List Flaw) : Type 0 where
  pub grammar : Grammar
  pub is_by : IsReadBy text grammar
  pub are : AreOfDraft grammar text told ⊎ AreNone grammar text told

-- what is told of a text behind its fault: the reports of the flaws that are told, but for the first
pub record TellsFurther (name text told : List ℕ) : Type 0 where
  pub flaws : List Flaw
  pub are : AreTold text flaws
  pub reports : AreReports name text (drop 1 flaws) told

-- the report of a fault of a text, and behind it what else is told
pub record TellsAll (name text : List ℕ) (fault : ReadFault) (report : List ℕ) : Type 0 where
  pub first : List ℕ
  pub others : List ℕ
  pub is : report ≡ first ++ others
  pub tells : TellsPlace name text fault first
  pub further : TellsFurther name text others

-- where memory was refused there is that report alone
abbrev pub TellsEach : (name text : List ℕ) → ReadFault → (report : List ℕ) → Type 0
TellsEach name text (read.Text b at) report = TellsAll name text (read.Text b at) report
TellsEach name text read.Memory report = Tells name (text_fault read.Memory) report
