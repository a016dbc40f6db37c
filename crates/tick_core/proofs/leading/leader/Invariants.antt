use Rattle.tick_core.specs.Inside.Leading.{BestBelow}
use Rattle.tick_core.proofs.leading.leader.Given as goal

abbrev pub invariant-loop-thread : goal.invariant-loop-thread
invariant-loop-thread l = BestBelow l.program l.tables l.control l.thread l.best
