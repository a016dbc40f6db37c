-- What the elements of nodes tell: each node comes from an element of the chart, and an assignment from the effect that
-- makes it, or, where it sets a flag or a counter, from a transition or a state.
use Rattle.std.specs.Prelude.{ℕ, ◌≡◌, ◌<◌, Some, length, slice_get}
use Rattle.sc_values.specs.Assignment.{assignment_of}
use Rattle.sc_graph.specs.declared.program.Node.{Node}
use Rattle.sc_graph.specs.declared.program.Step.{Step}
use Rattle.scl.specs.declared.program.Scl.{Scl}
use Rattle.scl.specs.Numbering.{numbered}
use Rattle.scl_graph.specs.Graph.{assigns, program_of}
use Rattle.core_charts.specs.declared.features.Features.TheVariants as features
use Rattle.core_charts.specs.declared.region.Effect.{Effect}
use Rattle.core_charts.specs.Chart.{Chart}
use Rattle.core_charts.specs.Rules.{IsChart}
use Rattle.core_charts.specs.declared.elements.element.Element.{Element}
use Rattle.core_charts.specs.declared.elements.element.Element.TheVariants as element
use Rattle.core_charts.specs.Elements.{Contents, all_effects, contents}
use Rattle.chart_lowering.specs.Lowering.{lowered}
use Rattle.abort_expansion.specs.Expansion.{expanded}
use Rattle.node_elements.specs.Origins.{node_elements}

-- this step assigns, but for where it leads, as this effect does
pub record Makes (e : Effect) (s : Step) : Type 0 where
  pub next : ℕ
  pub is : s ≡ assigns e.variable (assignment_of e.variable e.value) next

-- the element is there; if it is an effect, the step makes its assignment
abbrev pub NodeFrom : Contents → Element → Step → Type 0
NodeFrom all (element.Effect n) s = (e : Effect) × (slice_get (all_effects all.transitions) n ≡ Some e) × Makes e s
NodeFrom all (element.Transition n) s = n < length all.transitions
NodeFrom all (element.State n) s = n < length all.states
NodeFrom all (element.Region n) s = n < length all.regions
NodeFrom all element.Chart s = Unit {0}

-- the node of this number does this, and comes from an element
pub record Comes (c : Chart) (k : ℕ) (s : Step) : Type 0 where
  pub from : Element
  pub found : slice_get (node_elements c) k ≡ Some (Some from)
  pub does : NodeFrom (contents c) from s

pub record TellsElements (c : Chart) (p : Scl) : Type 0 where
  pub each : length (node_elements c) ≡ length (program_of (numbered p)).nodes
  pub comes : (k : ℕ) (n : Node) → slice_get (program_of (numbered p)).nodes k ≡ Some n → Comes c k n.step

-- of every chart with a core chart, and the SCL to which that is lowered
abbrev pub ElementsTellNodes : Type 0
ElementsTellNodes =
    (c : Chart) (p : Scl) → IsChart features.Extended c → IsChart features.Core (expanded c) → p.body ≡ lowered (expanded c) →
    TellsElements c p
