-- Where a label of a text's program stands: in SCL text the label itself, in a chart the state or the region for which the
-- lowering makes it.
use Rattle.std.specs.Prelude.{ℕ, ◌≡◌, Option, Some, None, List, map, slice_get}
use Rattle.sc_text.specs.declared.language.Language.{Language}
use Rattle.sc_text.specs.declared.language.Language.TheVariants as language
use Rattle.sc_text.specs.declared.token.Token.{Token}
use Rattle.sc_text.specs.FirstToken.{IsIn}
use Rattle.sc_text.specs.Tokens.{AreTokens}
use Rattle.scl.specs.declared.program.Scl.{Scl}
use Rattle.scl_reader.specs.declared.text_drafts.draft.Draft.{Draft}
use Rattle.scl_reader.specs.Checked as programs
use Rattle.scl_reader.specs.Resolved.{IsProgramOf}
use Rattle.core_charts.specs.Chart.{Chart}
use Rattle.core_charts.specs.declared.elements.element.Element.{Element}
use Rattle.core_charts.specs.declared.elements.element.Element.TheVariants as element
use Rattle.node_sources.specs.declared.chart_places.places.Places.{Places}
use Rattle.node_sources.specs.Read.{IsPlaced}
use Rattle.abort_expansion.specs.Expansion.{expanded}
use Rattle.compiler.specs.Charts.{IsSclOf}
use Rattle.node_elements.specs.Points.{Point, Assigns, Marks, Jumps, Pauses, Tests, Forks, Ends, text_points}
use Rattle.node_elements.specs.LoweringOrigins.{point_origins}
use Rattle.node_elements.specs.ExpansionOrigins.{expansion_origins}
use Rattle.node_elements.specs.Origins.{through}
use Rattle.node_sources.specs.declared.origin.Origin.{Origin}
use Rattle.node_sources.specs.declared.origin.SourcePart.{SourcePart}
use Rattle.node_sources.specs.declared.origin.SourcePart.TheVariants as part
use Rattle.node_sources.specs.ChartOrigins.{element_origin}
use Rattle.node_sources.specs.SclOrigins.{at_first, spots_of}

-- the name of the label at a point, if one stands there
abbrev pub label_at : Point → Option (List ℕ)
label_at (Marks name) = Some name
label_at (Assigns x e) = None
label_at (Jumps name) = None
label_at Pauses = None
label_at (Tests e) = None
label_at Forks = None
label_at Ends = None

-- a label of a state or of a region, or one that was added for an abort
abbrev pub label_part : Element → SourcePart
label_part element.Chart = part.Chart
label_part (element.Region n) = part.Region
label_part (element.State n) = part.State
label_part (element.Transition n) = part.Abort
label_part (element.Effect n) = part.Transition

abbrev pub label_origin : Places → Option (Option Element) → Option Origin
label_origin p (Some (Some from)) = element_origin p (label_part from) from
label_origin p (Some None) = None
label_origin p None = None

-- a label of this name stands at the point of this number
pub record IsLabel (scl : Scl) (name : List ℕ) (k : ℕ) : Type 0 where
  pub point : Point
  pub there : slice_get (text_points scl.body) k ≡ Some point
  pub named : label_at point ≡ Some name

pub record ChartLabel (text name : List ℕ) (o : Origin) : Type 0 where
  pub chart : Chart
  pub places : Places
  pub placed : IsPlaced text chart places
  pub scl : Scl
  pub lowers : IsSclOf chart scl
  pub number : ℕ
  pub label : IsLabel scl name number
  pub is : label_origin places (slice_get (map (through (expansion_origins chart)) (point_origins (expanded chart))) number) ≡ Some o

pub record SclLabel (text name : List ℕ) (o : Origin) : Type 0 where
  pub draft : Draft
  pub drafted : programs.IsFlawless text draft
  pub tokens : List Token
  pub cut : AreTokens language.Scl 0 text tokens
  pub scl : Scl
  pub spelled : IsProgramOf draft scl
  pub number : ℕ
  pub label : IsLabel scl name number
  pub is : at_first (slice_get (spots_of tokens draft.statements) number) ≡ Some o

abbrev pub LabelIn : Language → List ℕ → List ℕ → Origin → Type 0
LabelIn language.Chart = ChartLabel
LabelIn language.Scl = SclLabel

-- a label of this name stands there, in the language that the first token of the text tells
pub record IsLabelOrigin (text name : List ℕ) (o : Origin) : Type 0 where
  pub language : Language
  pub is_in : IsIn text language
  pub label : LabelIn language text name o
