use Rattle.std.proofs.Common.{◌*◌, ◌-◌, length, sum, slice_index}
use Rattle.priority_weights.specs.Inside.Bounds.{AreUnder}
use Rattle.priority_weights.proofs.bounds.raise.Given as goal

abbrev pub invariant-loop : goal.invariant-loop
invariant-loop l = AreUnder l.program (slice_index l.weights) l.bounds

abbrev pub decreases-loop : goal.decreases-loop
decreases-loop l = length l.program.threads * 4294967296 - sum l.bounds
