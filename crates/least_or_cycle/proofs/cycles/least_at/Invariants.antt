use Rattle.std.proofs.Common.{ℕ, ◌<◌, ◌≤◌, length, get_or}
use Rattle.least_or_cycle.proofs.cycles.least_at.Given as goal

abbrev pub invariant-loop-i : goal.invariant-loop-i
invariant-loop-i l = record {
  within : l.least < length l.walk;
  least : (k : ℕ) → k < l.i → get_or l.walk l.least 0 ≤ get_or l.walk k 0;
}
