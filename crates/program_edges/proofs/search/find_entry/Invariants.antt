use Rattle.std.proofs.Common.{ℕ, ◌≡◌, ◌<◌, Some, get_or}
use Rattle.sc_graph.specs.Program.{entry_of}
use Rattle.program_edges.proofs.search.find_entry.Given as goal

abbrev pub invariant-loop-child : goal.invariant-loop-child
invariant-loop-child g l = (k : ℕ) → k < l.child-index → (n : ℕ) → entry_of l.program (get_or l.children k 0) ≡ Some n → ¬ g.W.Sought.wants l.wanted n
