use Rattle.std.proofs.Common.{◌≡◌, ◌++◌, length, map, take, drop}
use Rattle.sc_graph.specs.Tick.{woken}
use Rattle.tick_core.proofs.starting.wake_all.Given as goal

abbrev pub invariant-loop-t : goal.invariant-loop-t
invariant-loop-t l = record {
  long : length l.statuses ≡ length l.initial.statuses;
  awake : take l.t l.statuses ++ map woken (drop l.t l.statuses) ≡ map woken l.initial.statuses;
}
