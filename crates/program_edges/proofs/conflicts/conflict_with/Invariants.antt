use Rattle.std.proofs.Common.{ℕ, ◌<◌, get_or}
use Rattle.sc_graph.specs.Protocol.{WriteConflict}
use Rattle.program_edges.proofs.conflicts.conflict_with.Given as goal

abbrev pub invariant-loop-n : goal.invariant-loop-n
invariant-loop-n l = (k : ℕ) → k < l.n-index → ¬ WriteConflict l.program l.m (get_or l.nodes k 0)
