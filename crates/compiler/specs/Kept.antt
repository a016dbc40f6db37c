-- What is kept of a source text that was read, beside its SCL program: of a chart's text its draft, the chart and its core chart, of a
-- program's its draft.
use Rattle.std.specs.Prelude.{ℕ, ◌≡◌, Option, IfSome, List}
use Rattle.sc_graph.specs.Program.{Program}
use Rattle.scl_graph.specs.Answers.{IsGraph}
use Rattle.sc_text.specs.declared.language.Language.TheVariants as language
use Rattle.sc_text.specs.FirstToken.{IsIn}
use Rattle.scl.specs.declared.program.Scl.{Scl}
use Rattle.scl_reader.specs.declared.text_drafts.draft.Draft.{Draft}
use Rattle.scl_reader.specs.Checked.{IsFlawless}
use Rattle.scl_reader.specs.Resolved.{IsProgramOf}
use Rattle.chart_reader.specs.Checked.{IsSound}
use Rattle.chart_reader.specs.Resolved.{chart_of}
use Rattle.abort_expansion.specs.Expansion.{expanded}
use Rattle.compiler.specs.Charts.{IsSclOf}
use Rattle.compiler.specs.declared.sources.reading.ReadText.{ReadText}
use Rattle.compiler.specs.declared.sources.reading.ReadText.TheVariants as reading
use Rattle.compiler.specs.declared.sources.reading.ReadChart.{ReadChart}

-- a text, and its SCL program
pub record Source : Type 0 where
  pub text : List ℕ
  pub scl : Scl

-- the text spells the chart, by its draft, and this is the SCL program of that, by its core chart
pub record KeepsChart (text : List ℕ) (scl : Scl) (kept : ReadChart) : Type 0 where
  pub is_chart : IsIn text language.Chart
  pub drafted : IsSound text kept.draft
  pub spelled : kept.chart ≡ chart_of kept.draft
  pub core : kept.core ≡ expanded kept.chart
  pub lowers : IsSclOf kept.chart scl

-- the text spells the SCL program, by its draft
pub record KeepsDraft (text : List ℕ) (scl : Scl) (draft : Draft) : Type 0 where
  pub is_scl : IsIn text language.Scl
  pub drafted : IsFlawless text draft
  pub spelled : IsProgramOf draft scl

abbrev pub Keeps : List ℕ → Scl → ReadText → Type 0
Keeps text scl (reading.Chart kept) = KeepsChart text scl kept
Keeps text scl (reading.Scl draft) = KeepsDraft text scl draft

-- so it is kept of the text, and, where a graph is kept, it is that of its SCL program
pub record IsKept (text : List ℕ) (scl : Scl) (r : ReadText) (graph : Option Program) : Type 0 where
  pub keeps : Keeps text scl r
  pub graph_of : IfSome graph (IsGraph scl)
