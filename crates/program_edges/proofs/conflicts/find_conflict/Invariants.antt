use Rattle.std.proofs.Common.{ℕ, ◌<◌}
use Rattle.program_edges.specs.Inside.NoConflicts.{NoConflictOn}
use Rattle.program_edges.proofs.conflicts.find_conflict.Given as goal

abbrev pub invariant-loop-x : goal.invariant-loop-x
invariant-loop-x l = (k : ℕ) → k < l.x → NoConflictOn l.program k
