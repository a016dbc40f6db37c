use Rattle.std.proofs.Common.{◌≡◌, map, take}
use Rattle.sc_graph.specs.declared.control.Status.TheVariants.{Absent}
use Rattle.sc_graph.proofs.resting.absent_statuses.Given as goal

abbrev pub invariant-loop-thread : goal.invariant-loop-thread
invariant-loop-thread l = l.statuses ≡ map (λ _. Absent) (take l._thread-index l.threads)
