use Rattle.std.proofs.Common.{ℕ, ◌≡◌, ◌<◌, Some, get_or}
use Rattle.sc_graph.specs.Program.{parent_of}
use Rattle.sc_graph.proofs.program.Program.have_parent.Given as goal

abbrev pub invariant-loop-child : goal.invariant-loop-child
invariant-loop-child l = (k d : ℕ) → k < l.child-index → parent_of l.self (get_or l.children k d) ≡ Some l.parent
