use Rattle.std.proofs.Common.{◌≡◌, ◌≤◌, ◌+◌, ◌++◌, count_by, drop, length, vec_capacity}
use Rattle.tick_core.specs.Space.Living.{lives}
use Rattle.tick_core.proofs.there.list_some.Given as goal

abbrev pub invariant-loop-thread : goal.invariant-loop-thread
invariant-loop-thread l = record {
  rest : l.listed.items ++ drop l.thread-index l.threads ≡ l.initial.listed.items ++ l.threads;
  long : length l.listed.items ≡ length l.initial.listed.items + l.thread-index;
  room : vec_capacity l.listed ≡ vec_capacity l.initial.listed;
  few : l.count ≤ l.thread-index;
  counted : l.count + count_by (lives l.control) (drop l.thread-index l.threads) ≡ count_by (lives l.control) l.threads;
}
