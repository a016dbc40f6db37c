-- What is answered of a text that makes a program: this, with the origin of each node.
use Rattle.std.specs.Prelude.{ℕ, ◌≡◌, Some, List, map}
use Rattle.sc_graph.specs.Program.{Program}
use Rattle.sc_text.specs.declared.language.Language.{Language}
use Rattle.sc_text.specs.declared.language.Language.TheVariants as language
use Rattle.sc_text.specs.declared.token.Token.{Token}
use Rattle.sc_text.specs.FirstToken.{IsIn}
use Rattle.sc_text.specs.Tokens.{AreTokens}
use Rattle.scl.specs.declared.program.Scl.{Scl}
use Rattle.scl_reader.specs.declared.text_drafts.draft.Draft.{Draft}
use Rattle.scl_reader.specs.Checked as programs
use Rattle.scl_reader.specs.Resolved.{IsProgramOf}
use Rattle.scl_graph.specs.Answers.{IsGraph}
use Rattle.core_charts.specs.Chart.{Chart}
use Rattle.node_sources.specs.declared.chart_places.places.Places.{Places}
use Rattle.node_sources.specs.Read.{IsPlaced}
use Rattle.compiler.specs.Charts.{IsSclOf}
use Rattle.node_sources.specs.declared.origin.Origin.{Origin}
use Rattle.node_sources.specs.ChartOrigins.{chart_origins}
use Rattle.node_sources.specs.SclOrigins.{scl_origins}

-- the text spells a chart, whose program this is, and each node has its origin, by the places of the chart's elements
pub record ChartSources (text : List ℕ) (p : Program) (origins : List Origin) : Type 0 where
  pub chart : Chart
  pub places : Places
  pub placed : IsPlaced text chart places
  pub scl : Scl
  pub lowers : IsSclOf chart scl
  pub graph : IsGraph scl p
  pub each : map Some origins ≡ chart_origins chart places p

-- the text spells an SCL program, whose graph this is, and each node has its origin, by the tokens and the draft
pub record SclSources (text : List ℕ) (p : Program) (origins : List Origin) : Type 0 where
  pub draft : Draft
  pub drafted : programs.IsFlawless text draft
  pub tokens : List Token
  pub cut : AreTokens language.Scl 0 text tokens
  pub scl : Scl
  pub spelled : IsProgramOf draft scl
  pub graph : IsGraph scl p
  pub each : map Some origins ≡ scl_origins tokens draft.statements scl.body

abbrev pub SourcesIn : Language → List ℕ → Program → List Origin → Type 0
SourcesIn language.Chart = ChartSources
SourcesIn language.Scl = SclSources

-- in the language that the first token of the text tells
pub record AreSources (text : List ℕ) (p : Program) (origins : List Origin) : Type 0 where
  pub language : Language
  pub is_in : IsIn text language
  pub sources : SourcesIn language text p origins
