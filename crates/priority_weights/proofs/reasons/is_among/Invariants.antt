use Rattle.std.proofs.Common.{◌≤◌, ◌-◌, length}
use Rattle.priority_weights.proofs.reasons.is_among.Given as goal

abbrev pub invariant-loop-low : goal.invariant-loop-low
invariant-loop-low l = l.high ≤ length l.list

abbrev pub decreases-loop-low : goal.decreases-loop-low
decreases-loop-low l = l.high - l.low
