-- The SCL program that a source text spells, or why it spells none.
use Rattle.std.specs.Prelude.{ℕ, List}
use Rattle.sc_text.specs.declared.language.Language.{Language}
use Rattle.sc_text.specs.declared.language.Language.TheVariants as language
use Rattle.sc_text.specs.declared.read_fault.ReadFault.{ReadFault}
use Rattle.sc_text.specs.FirstToken.{IsIn}
use Rattle.scl.specs.declared.program.Scl.{Scl}
use Rattle.scl_reader.specs.Checked as programs
use Rattle.scl_reader.specs.Read as programs_read
use Rattle.core_charts.specs.Chart.{Chart}
use Rattle.chart_reader.specs.Checked as charts
use Rattle.chart_reader.specs.Read as charts_read
use Rattle.abort_expansion.specs.Answers.{LacksCore}
use Rattle.abort_expansion.specs.declared.fault.ExpandFault.{ExpandFault}
use Rattle.compiler.specs.Charts.{IsSclOf}
use Rattle.compiler.specs.declared.sources.fault.SourceFault.{SourceFault}
use Rattle.compiler.specs.declared.sources.fault.SourceFault.TheVariants as fault

-- ---- what it spells

-- the text spells a chart, whose SCL program this is
pub record SpellsChart (text : List ℕ) (scl : Scl) : Type 0 where
  pub chart : Chart
  pub read : charts_read.IsRead text chart
  pub is : IsSclOf chart scl

-- a text of this language spells this SCL program
abbrev pub SpellsIn : Language → List ℕ → Scl → Type 0
SpellsIn language.Chart text scl = SpellsChart text scl
SpellsIn language.Scl text scl = programs_read.IsRead text scl

-- the text spells this SCL program, in the language that its first token tells
pub record SpellsProgram (text : List ℕ) (scl : Scl) : Type 0 where
  pub language : Language
  pub is_in : IsIn text language
  pub spells : SpellsIn language text scl

-- ---- why it spells none

-- the fault of a text of this language, which is not of the grammar or breaks a rule
abbrev pub IsFaultIn : Language → List ℕ → ReadFault → Type 0
IsFaultIn language.Chart text f = charts.IsTextFault text f
IsFaultIn language.Scl text f = programs.IsTextFault text f

-- the fault of a text, in the language that its first token tells
pub record IsTextFault (text : List ℕ) (f : ReadFault) : Type 0 where
  pub language : Language
  pub is_in : IsIn text language
  pub fault : IsFaultIn language text f

-- the text spells a chart, which has no core chart, for this fault, and so no SCL program
pub record ChartLacksCore (text : List ℕ) (f : ExpandFault) : Type 0 where
  pub is_chart : IsIn text language.Chart
  pub chart : Chart
  pub read : charts_read.IsRead text chart
  pub none : LacksCore chart f

-- it has a fault; or it spells a chart that has no core chart
abbrev pub LacksProgram : List ℕ → SourceFault → Type 0
LacksProgram text (fault.Text f) = IsTextFault text f
LacksProgram text (fault.Expansion f) = ChartLacksCore text f
