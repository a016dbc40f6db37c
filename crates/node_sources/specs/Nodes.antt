-- For each node of the program of a reduced chart where it comes from in the author's text. The node comes from an element of the
-- reduced chart, and that from one of the author's, at whose place the node stands, with the names of the state and the region there.
use Rattle.std.specs.Prelude.{ℕ, suc, Bool, Option, Some, None, List, [], ◌∷◌, slice_get, if◌then◌else◌}
use Rattle.sc_graph.specs.declared.program.Node.{Node}
use Rattle.sc_graph.specs.declared.program.Variable.{Variable}
use Rattle.sc_graph.specs.Program.{Program}
use Rattle.core_charts.specs.Chart.{Chart}
use Rattle.core_charts.specs.declared.elements.element.Element.{Element}
use Rattle.core_charts.specs.declared.elements.element.Element.TheVariants as element
use Rattle.node_sources.specs.declared.chart_places.places.Places.{Places}
use Rattle.node_elements.specs.Origins.{node_elements}
use Rattle.node_sources.specs.declared.origin.Origin.{Origin}
use Rattle.node_sources.specs.declared.origin.SourcePart.{SourcePart}
use Rattle.node_sources.specs.declared.origin.SourcePart.TheVariants as part
use Rattle.node_sources.specs.ChartOrigins.{element_origin}
use Rattle.node_sources.specs.Parts.{part_of}
use Rattle.node_sources.specs.declared.extended.text_places.origins.AuthorOrigin.{AuthorOrigin}
use Rattle.node_sources.specs.declared.extended.text_places.origins.AuthorOrigins.{AuthorOrigins}
use Rattle.node_sources.specs.Origins.{origin_of}
use Rattle.node_sources.specs.declared.extended.node.AuthorNode.{AuthorNode}

-- what stands at the place of an element for which something is made
abbrev pub made_part : Element → SourcePart
made_part element.Chart = part.Chart
made_part (element.Region n) = part.Region
made_part (element.State n) = part.State
made_part (element.Transition n) = part.Transition
made_part (element.Effect n) = part.Transition

-- this is done there, but of what is made no more is told than for what it is
abbrev pub told_part : SourcePart → AuthorOrigin → SourcePart
told_part does o = if o.is_made then made_part o.from else does

abbrev pub told_as : (is_made : Bool) → Option Origin → Option AuthorNode
told_as made (Some o) = Some (record { origin = o; is_made = made })
told_as made None = None

-- what does this, and comes from an element of the reduced chart with this origin. None: that has none, or the origin no place
abbrev pub in_author : Places → SourcePart → Option AuthorOrigin → Option AuthorNode
in_author p does (Some o) = told_as o.is_made (element_origin p (told_part does o) o.from)
in_author p does None = None

-- a node that comes from an element of the reduced chart
abbrev pub author_node : AuthorOrigins → Places → List Variable → Option Element → Option Node → Option AuthorNode
author_node os p variables (Some e) (Some n) = in_author p (part_of variables n.step e) (origin_of os e)
author_node os p variables (Some e) None = None
author_node os p variables None n = None

-- nodes from number k on, which come from these elements
abbrev pub nodes_from : AuthorOrigins → Places → Program → ℕ → List (Option Element) → List (Option AuthorNode)
nodes_from os p q k [] = []
nodes_from os p q k (e ∷ elements) = author_node os p q.variables e (slice_get q.nodes k) ∷ nodes_from os p q (suc k) elements

-- the nodes of the program of a reduced chart
abbrev pub author_nodes : Chart → AuthorOrigins → Places → Program → List (Option AuthorNode)
author_nodes c os p q = nodes_from os p q 0 (node_elements c)
