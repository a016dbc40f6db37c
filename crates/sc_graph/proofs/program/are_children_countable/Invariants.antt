use Rattle.std.proofs.Common.{ℕ, ◌≡◌, ◌<◌, Some, slice_get}
use Rattle.sc_graph.specs.declared.program.Node.{Node}
use Rattle.sc_graph.specs.Layout.{CountsChildren}
use Rattle.sc_graph.proofs.program.are_children_countable.Given as goal

abbrev pub invariant-loop-node : goal.invariant-loop-node
invariant-loop-node l = (n : ℕ) (x : Node) → n < l.node-index → slice_get l.nodes n ≡ Some x → CountsChildren x.step
