use Rattle.std.proofs.Common.{ℕ, ◌<◌}
use Rattle.program_edges.specs.AlongVariables.{FallsOn}
use Rattle.priority_weights.proofs.kept.protocol_kept.Given as goal

abbrev pub invariant-loop-x : goal.invariant-loop-x
invariant-loop-x l = (k : ℕ) → k < l.x → FallsOn l.program l.table k
