-- For each node of the program of a chart the element of the chart from which it comes: of the node its point, of the
-- point the element of the core chart, and of that the element of the chart.
use Rattle.std.specs.Prelude.{ℕ, Option, Some, None, List, map, slice_get}
use Rattle.core_charts.specs.Chart.{Chart}
use Rattle.core_charts.specs.declared.elements.element.Element.{Element}
use Rattle.core_charts.specs.declared.elements.element.Element.TheVariants as element
use Rattle.node_elements.specs.declared.graph.origin.NodeOrigin.{NodeOrigin}
use Rattle.node_elements.specs.declared.graph.origin.NodeOrigin.TheVariants as node
use Rattle.node_elements.specs.GraphOrigins.{node_origins}
use Rattle.chart_lowering.specs.Lowering.{lowered}
use Rattle.node_elements.specs.LoweringOrigins.{point_origins}
use Rattle.abort_expansion.specs.Expansion.{expanded}
use Rattle.node_elements.specs.declared.expansion.origins.Origins.{Origins}
use Rattle.node_elements.specs.ExpansionOrigins.{expansion_origins}

abbrev pub point_of : NodeOrigin → ℕ
point_of (node.First n) = n
point_of (node.Second n) = n

-- from an element of the core chart to that of the chart
abbrev pub through : Origins → Element → Option Element
through os element.Chart = Some element.Chart
through os (element.Region n) = slice_get os.regions n
through os (element.State n) = slice_get os.states n
through os (element.Transition n) = slice_get os.transitions n
through os (element.Effect n) = slice_get os.effects n

abbrev pub through_any : Origins → Option Element → Option Element
through_any os (Some core) = through os core
through_any os None = None

abbrev pub element_of : List Element → Origins → NodeOrigin → Option Element
element_of points os n = through_any os (slice_get points (point_of n))

abbrev pub composed : List NodeOrigin → List Element → Origins → List (Option Element)
composed nodes points os = map (element_of points os) nodes

abbrev pub node_elements : Chart → List (Option Element)
node_elements c = composed (node_origins (lowered (expanded c))) (point_origins (expanded c)) (expansion_origins c)
