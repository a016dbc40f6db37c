-- What the origins of a graph tell: each node does what stands at its point.
use Rattle.std.specs.Prelude.{ℕ, ◌≡◌, Some, List, length, slice_get}
use Rattle.sc_values.specs.Expr.{postorder}
use Rattle.sc_values.specs.Assignment.{assignment_of}
use Rattle.sc_graph.specs.declared.program.Node.{Node}
use Rattle.sc_graph.specs.declared.program.Step.{Step}
use Rattle.sc_graph.specs.declared.program.Step.TheVariants as step
use Rattle.scl.specs.declared.program.Scl.{Scl}
use Rattle.scl.specs.Numbering.{numbered}
use Rattle.scl_graph.specs.Graph.{assigns, program_of}
use Rattle.node_elements.specs.declared.graph.origin.NodeOrigin.{NodeOrigin}
use Rattle.node_elements.specs.declared.graph.origin.NodeOrigin.TheVariants as node
use Rattle.node_elements.specs.Points.{Point, Assigns, Pauses, Tests, Forks, Ends, text_points}
use Rattle.node_elements.specs.GraphOrigins.{node_origins}

-- the step of the only node of a point, or of its first one, but for where it leads
abbrev pub IsFirst : Point → Step → Type 0
IsFirst (Assigns x e) s = (next : ℕ) × s ≡ assigns x (assignment_of x e) next
IsFirst Pauses s = (depth : ℕ) × s ≡ step.Surf depth
IsFirst (Tests e) s = (yes : ℕ) × (no : ℕ) × s ≡ step.Cond (postorder e) yes no
IsFirst Forks s = (children : List ℕ) × (join : ℕ) × s ≡ step.Fork children join
IsFirst Ends s = s ≡ step.Exit
IsFirst other s = ⊥

-- and that of its second one
abbrev pub IsSecond : Point → Step → Type 0
IsSecond Pauses s = (next : ℕ) × s ≡ step.Depth next
IsSecond Forks s = (next : ℕ) × s ≡ step.Join next
IsSecond other s = ⊥

-- the point of this number among these is there, and so is its step
abbrev pub IsDone : List Point → NodeOrigin → Step → Type 0
IsDone points (node.First n) s = (p : Point) × (slice_get points n ≡ Some p) × IsFirst p s
IsDone points (node.Second n) s = (p : Point) × (slice_get points n ≡ Some p) × IsSecond p s

-- there are as many origins as nodes, and the node of each place does what stands at the point of its origin
pub record TellsNodes (p : Scl) : Type 0 where
  pub each : length (node_origins p.body) ≡ length (program_of (numbered p)).nodes
  pub done : (k : ℕ) (o : NodeOrigin) (n : Node) → slice_get (node_origins p.body) k ≡ Some o →
      slice_get (program_of (numbered p)).nodes k ≡ Some n → IsDone (text_points p.body) o n.step

abbrev pub OriginsTellNodes : Type 0
OriginsTellNodes = (p : Scl) → TellsNodes p
