use Rattle.program_edges.proofs.Agreeing.{GoneUp}
use Rattle.program_edges.proofs.agreement.note_above.Given as goal

abbrev pub invariant-loop-parent : goal.invariant-loop-parent
invariant-loop-parent l = GoneUp l.program l.way l.x l.initial.seen.items l.seen.items l.thread l.below l.n

abbrev pub decreases-loop-parent : goal.decreases-loop-parent
decreases-loop-parent l = l.below
