use Rattle.std.proofs.Common.{◌≡◌, ℕ, ◌<◌, Some, slice_get}
use Rattle.sc_graph.specs.declared.program.Node.{Node}
use Rattle.sc_graph.specs.Inside.Fits.{ChildrenStand}
use Rattle.sc_graph.proofs.resting.all_children_stand.Given as goal

abbrev pub invariant-loop-node : goal.invariant-loop-node
invariant-loop-node l = (n : ℕ) (x : Node) → n < l.node-index → slice_get l.node-items n ≡ Some x → ChildrenStand l.control x
