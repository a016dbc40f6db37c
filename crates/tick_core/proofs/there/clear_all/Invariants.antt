use Rattle.std.proofs.Common.{◌≡◌, length}
use Rattle.tick_core.specs.Space.There.{AbsentBelow}
use Rattle.tick_core.proofs.there.clear_all.Given as goal

abbrev pub invariant-loop-thread : goal.invariant-loop-thread
invariant-loop-thread l = record {
  long : length l.statuses ≡ length l.initial.statuses;
  absent : AbsentBelow l.statuses l.thread;
}
