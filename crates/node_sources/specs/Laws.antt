-- What the origins of the nodes of a chart's program tell: each node comes from an element of the chart, an assignment of the
-- text from the effect that makes it, and at the place of its origin stands the token that begins this element.
use Rattle.std.specs.Prelude.{ℕ, ◌≡◌, Some, List, length, slice_get}
use Rattle.sc_graph.specs.declared.program.Node.{Node}
use Rattle.sc_graph.specs.Program.{Program}
use Rattle.core_charts.specs.Chart.{Chart}
use Rattle.core_charts.specs.declared.elements.element.Element.{Element}
use Rattle.core_charts.specs.declared.elements.element.Element.TheVariants as element
use Rattle.core_charts.specs.Elements.{all_effects, contents}
use Rattle.node_sources.specs.ChartLaws.{EffectStands, NameStands, TransitionStands}
use Rattle.node_elements.specs.Laws.{NodeFrom}
use Rattle.node_sources.specs.declared.origin.Origin.{Origin}
use Rattle.node_sources.specs.Sources.{ChartSources}

-- one of these has this number, and it stands there
pub record IsStanding {A : Type 0} (Stands : A → ℕ → Type 0) (those : List A) (n : ℕ) (at : ℕ) : Type 0 where
  pub item : A
  pub is : slice_get those n ≡ Some item
  pub stands : Stands item at

-- the token that begins the element stands there
abbrev pub ElementStands : List ℕ → Chart → Element → ℕ → Type 0
ElementStands text c element.Chart at = NameStands text c.name at
ElementStands text c (element.Region n) at = IsStanding (NameStands text) (contents c).regions n at
ElementStands text c (element.State n) at = IsStanding (NameStands text) (contents c).states n at
ElementStands text c (element.Transition n) at = IsStanding (TransitionStands text) (contents c).transitions n at
ElementStands text c (element.Effect n) at = IsStanding (EffectStands text c.variables) (all_effects (contents c).transitions) n at

pub record NodeTold (text : List ℕ) (c : Chart) (n : Node) (o : Origin) : Type 0 where
  pub from : Element
  pub does : NodeFrom (contents c) from n.step
  pub stands : ElementStands text c from o.at

pub record TellsSources (text : List ℕ) (c : Chart) (p : Program) (origins : List Origin) : Type 0 where
  pub each : length origins ≡ length p.nodes
  pub told : (k : ℕ) (n : Node) (o : Origin) → slice_get p.nodes k ≡ Some n → slice_get origins k ≡ Some o → NodeTold text c n o

abbrev pub SourcesTellCharts : Type 0
SourcesTellCharts = (text : List ℕ) (p : Program) (origins : List Origin) (s : ChartSources text p origins) → TellsSources text s.chart p origins
