use Rattle.std.proofs.Common.{ℕ, ◌<◌}
use Rattle.verifier.specs.Inside.ByNode.{IsCovered}
use Rattle.verifier.proofs.bounds.bound_fault.Given as goal

abbrev pub invariant-loop-n : goal.invariant-loop-n
invariant-loop-n l = (k : ℕ) → k < l.n → IsCovered l.program l.tables k
