use Rattle.std.proofs.Common.{◌≡◌, ◌≤◌, length, take}
use Rattle.embedded_machine.proofs.buffers.put_all.Given as goal

abbrev pub invariant-loop-at : goal.invariant-loop-at
invariant-loop-at l = record {
  room : length l.from ≤ length l.into;
  same : take l.at l.into ≡ take l.at l.from;
}
