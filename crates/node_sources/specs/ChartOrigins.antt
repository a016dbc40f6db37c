-- For each node of the program of a chart where it comes from: the element of the chart from which it comes, at its place
-- in the text, with the names of the state and the region in which that stands.
use Rattle.std.specs.Prelude.{ℕ, suc, Option, Some, None, List, [], ◌∷◌, slice_get}
use Rattle.sc_graph.specs.declared.program.Node.{Node}
use Rattle.sc_graph.specs.declared.program.Variable.{Variable}
use Rattle.sc_graph.specs.Program.{Program}
use Rattle.core_charts.specs.Chart.{Chart}
use Rattle.core_charts.specs.declared.elements.element.Element.{Element}
use Rattle.core_charts.specs.declared.elements.element.Element.TheVariants as element
use Rattle.node_sources.specs.declared.chart_places.places.Places.{Places}
use Rattle.node_sources.specs.declared.chart_places.states_around.StateAround.{StateAround}
use Rattle.node_sources.specs.Places.{place_of, state_around}
use Rattle.node_elements.specs.Origins.{node_elements}
use Rattle.node_sources.specs.declared.origin.Origin.{Origin}
use Rattle.node_sources.specs.declared.origin.SourcePart.{SourcePart}
use Rattle.node_sources.specs.Parts.{part_of}

-- a part of a state
abbrev pub in_state_around : SourcePart → ℕ → Option StateAround → Origin
in_state_around part at (Some around) = record { at = at; part = part; region = Some around.region; state = Some around.state }
in_state_around part at None = record { at = at; part = part; region = None; state = None }

-- what stands at a place: the chart lies in no region, and a region in none but itself
abbrev pub standing : Places → SourcePart → Element → ℕ → Origin
standing p part element.Chart at = record { at = at; part = part; region = None; state = None }
standing p part (element.Region n) at = record { at = at; part = part; region = Some at; state = None }
standing p part (element.State n) at = in_state_around part at (state_around p (element.State n))
standing p part (element.Transition n) at = in_state_around part at (state_around p (element.Transition n))
standing p part (element.Effect n) at = in_state_around part at (state_around p (element.Effect n))

abbrev pub standing_if : Places → SourcePart → Element → Option ℕ → Option Origin
standing_if p part from (Some at) = Some (standing p part from at)
standing_if p part from None = None

-- an element as a part of the text. None: it has no place
abbrev pub element_origin : Places → SourcePart → Element → Option Origin
element_origin p part from = standing_if p part from (place_of p from)

-- a node that comes from an element
abbrev pub node_origin : Places → List Variable → Option Element → Option Node → Option Origin
node_origin p variables (Some from) (Some n) = element_origin p (part_of variables n.step from) from
node_origin p variables (Some from) None = None
node_origin p variables None n = None

-- nodes from number k on, which come from these elements
abbrev pub origins_from : Places → Program → ℕ → List (Option Element) → List (Option Origin)
origins_from p q k [] = []
origins_from p q k (from ∷ elements) = node_origin p q.variables from (slice_get q.nodes k) ∷ origins_from p q (suc k) elements

-- the nodes of the program of a chart whose elements have these places
abbrev pub chart_origins : Chart → Places → Program → List (Option Origin)
chart_origins c p q = origins_from p q 0 (node_elements c)
