use Rattle.std.proofs.Common.{ℕ, ◌<◌, get_or}
use Rattle.std.specs.Prelude.{Contains}
use Rattle.program_edges.specs.AlongVariables.{FallsTo}
use Rattle.priority_weights.proofs.kept.all_fall.Given as goal

abbrev pub invariant-loop-m : goal.invariant-loop-m
invariant-loop-m l = (k : ℕ) → k < l.m-index → (n : ℕ) → Contains l.seconds n → FallsTo l.edges l.table (get_or l.firsts k 0) n
