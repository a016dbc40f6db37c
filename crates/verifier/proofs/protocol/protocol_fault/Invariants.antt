use Rattle.std.proofs.Common.{ℕ, ◌<◌}
use Rattle.program_edges.specs.AlongVariables.{FallsOn}
use Rattle.verifier.proofs.protocol.protocol_fault.Given as goal

abbrev pub invariant-loop-x : goal.invariant-loop-x
invariant-loop-x l = (k : ℕ) → k < l.x → FallsOn l.program l.tables.priorities k
