use Rattle.std.proofs.Common.{ℕ, ◌<◌, ◌≤◌}
use Rattle.std.specs.Prelude.{slice_index}
use Rattle.sc_graph.specs.Protocol.{Instant}
use Rattle.priority_weights.proofs.kept.instants_kept.Given as goal

abbrev pub invariant-loop-node : goal.invariant-loop-node
invariant-loop-node l = (m : ℕ) → m < l.node → (n : ℕ) → Instant l.program m n → slice_index l.table n ≤ slice_index l.table m
