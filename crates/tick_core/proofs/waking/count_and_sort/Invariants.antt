use Rattle.tick_core.specs.Inside.Waking.{EnteredBelow}
use Rattle.tick_core.proofs.waking.count_and_sort.Given as goal

abbrev pub invariant-loop-thread : goal.invariant-loop-thread
invariant-loop-thread l = EnteredBelow l.program l.tables l.control l.are_bare l.thread l.counts.items l.rows
