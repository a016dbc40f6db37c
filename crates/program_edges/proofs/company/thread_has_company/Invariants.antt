use Rattle.std.proofs.Common.{ℕ}
use Rattle.sc_graph.specs.Threads.{AreConcurrent}
use Rattle.program_edges.proofs.company.thread_has_company.Given as goal

abbrev pub invariant-loop-parent : goal.invariant-loop-parent
invariant-loop-parent l = (u : ℕ) → AreConcurrent l.program l.thread u → AreConcurrent l.program l.below u

abbrev pub decreases-loop-parent : goal.decreases-loop-parent
decreases-loop-parent l = l.below
