use Rattle.std.proofs.Common.{ℕ, ◌<◌, get_or}
use Rattle.program_edges.specs.AlongVariables.{FallsTo}
use Rattle.priority_weights.proofs.kept.falls_to_all.Given as goal

abbrev pub invariant-loop-n : goal.invariant-loop-n
invariant-loop-n l = (k : ℕ) → k < l.n-index → FallsTo l.edges l.table l.m (get_or l.seconds k 0)
