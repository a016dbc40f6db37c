use Rattle.std.proofs.Common.{◌≡◌, ◌<◌, ℕ, length, get_or}
use Rattle.embedded_machine.proofs.buffers.put_beginning.Given as goal

abbrev pub invariant-loop-at : goal.invariant-loop-at
invariant-loop-at l = record {
  long : length l.into ≡ length l.fn.into;
  each : (k : ℕ) → k < l.at → k < length l.from → get_or l.into k 0 ≡ get_or l.from k 0;
}
