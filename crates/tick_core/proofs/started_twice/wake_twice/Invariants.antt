use Rattle.tick_core.specs.Space.There.{CopiedBelow, WokenBelow}
use Rattle.tick_core.proofs.started_twice.wake_twice.Given as goal

abbrev pub invariant-loop-at : goal.invariant-loop-at
invariant-loop-at l = record {
  woken : WokenBelow l.initial.statuses l.statuses l.listed l.at;
  same : CopiedBelow l.statuses l.others l.listed l.at;
}
