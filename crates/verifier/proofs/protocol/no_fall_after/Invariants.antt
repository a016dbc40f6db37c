use Rattle.std.proofs.Common.{ℕ, ◌<◌, get_or}
use Rattle.program_edges.specs.AlongVariables.{FallsTo}
use Rattle.verifier.proofs.protocol.no_fall_after.Given as goal

abbrev pub invariant-loop-n : goal.invariant-loop-n
invariant-loop-n l = (k : ℕ) → k < l.n-index → FallsTo l.program l.tables.priorities l.m (get_or l.seconds k 0)
