use Rattle.std.proofs.Common.{◌≡◌, length, take}
use Rattle.tick_core.proofs.copying.copy_items.Given as goal

abbrev pub invariant-loop-at : goal.invariant-loop-at
invariant-loop-at g l = record {
  long : length l.to ≡ length l.from;
  same : take l.at l.to ≡ take l.at l.from;
}
