-- What the sources of an extended text tell: each node comes from an element of the reduced chart, an assignment of its text from the
-- effect that makes it, and stands where the author's element does from which that comes.
use Rattle.std.specs.Prelude.{ℕ, ◌≡◌, Option, Some, List, length, slice_get}
use Rattle.sc_graph.specs.declared.program.Node.{Node}
use Rattle.sc_graph.specs.declared.program.Variable.{Variable}
use Rattle.sc_graph.specs.declared.program.Step.{Step}
use Rattle.sc_graph.specs.Program.{Program}
use Rattle.core_charts.specs.Chart.{Chart}
use Rattle.core_charts.specs.declared.elements.element.Element.{Element}
use Rattle.core_charts.specs.Elements.{contents}
use Rattle.node_sources.specs.declared.chart_places.places.Places.{Places}
use Rattle.node_elements.specs.Laws.{NodeFrom}
use Rattle.node_sources.specs.Parts.{part_of}
use Rattle.node_sources.specs.declared.extended.text_places.origins.AuthorOrigins.{AuthorOrigins}
use Rattle.node_sources.specs.Origins.{origin_of}
use Rattle.node_sources.specs.declared.extended.node.AuthorNode.{AuthorNode}
use Rattle.node_sources.specs.Nodes.{in_author}
use Rattle.node_sources.specs.ExtendedSources.{AreAuthorSources}

pub record NodeTold (c : Chart) (os : AuthorOrigins) (p : Places) (variables : List Variable) (s : Step) (told : Option AuthorNode) : Type 0 where
  pub from : Element
  pub does : NodeFrom (contents c) from s
  pub is : told ≡ in_author p (part_of variables s from) (origin_of os from)

pub record TellsAuthor (c : Chart) (os : AuthorOrigins) (p : Places) (q : Program) (nodes : List (Option AuthorNode)) : Type 0 where
  pub each : length nodes ≡ length q.nodes
  pub told :
      (k : ℕ) (n : Node) (told : Option AuthorNode) → slice_get q.nodes k ≡ Some n → slice_get nodes k ≡ Some told →
      NodeTold c os p q.variables n.step told

abbrev pub AuthorSourcesTellNodes : Type 0
AuthorSourcesTellNodes =
    (text : List ℕ) (q : Program) (nodes : List (Option AuthorNode)) (s : AreAuthorSources text q nodes) →
    TellsAuthor s.chart s.origins s.places q nodes
