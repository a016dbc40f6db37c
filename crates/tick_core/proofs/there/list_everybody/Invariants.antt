use Rattle.std.proofs.Common.{◌≡◌, ◌<◌, ℕ, Contains, length, vec_capacity}
use Rattle.tick_core.proofs.there.list_everybody.Given as goal

abbrev pub invariant-loop-thread : goal.invariant-loop-thread
invariant-loop-thread l = record {
  long : length l.listed.items ≡ l.thread;
  room : vec_capacity l.listed ≡ vec_capacity l.initial.listed;
  each : (t : ℕ) → t < l.thread → Contains l.listed.items t;
}
