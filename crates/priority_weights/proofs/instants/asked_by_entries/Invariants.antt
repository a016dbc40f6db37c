use Rattle.std.proofs.Common.{◌≡◌, Some, get_or}
use Rattle.sc_graph.specs.Program.{entry_of}
use Rattle.priority_weights.specs.Inside.Next.{IsAsked}
use Rattle.priority_weights.proofs.Asking.{Before}
use Rattle.priority_weights.proofs.instants.asked_by_entries.Given as goal

abbrev pub invariant-loop-child : goal.invariant-loop-child
invariant-loop-child l = IsAsked (Before (λ i n. entry_of l.program (get_or l.children i 0) ≡ Some n) l.child-index) l.table 0 l.asked
