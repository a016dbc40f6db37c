use Rattle.std.proofs.Common.{ℕ, ◌≡◌, ◌≢◌, ◌<◌, Some, slice_get}
use Rattle.tick_core.specs.declared.judging.replaying.Taken.{Taken}
use Rattle.tick_core.proofs.judging.forbidden.takes_between.Given as goal

abbrev pub invariant-loop-at : goal.invariant-loop-at
invariant-loop-at l = (k : ℕ) (x : Taken) → l.first < k → k < l.at → slice_get l.steps k ≡ Some x → x.thread ≢ l.thread
