use Rattle.std.proofs.Common.{ℕ, ◌<◌, get_or}
use Rattle.std.specs.Prelude.{Contains}
use Rattle.sc_graph.specs.Protocol.{WriteConflict}
use Rattle.program_edges.proofs.conflicts.conflict_among.Given as goal

abbrev pub invariant-loop-m : goal.invariant-loop-m
invariant-loop-m l = (k : ℕ) → k < l.m-index → (n : ℕ) → Contains l.nodes n → ¬ WriteConflict l.program (get_or l.nodes k 0) n
