use Rattle.std.proofs.Common.{◌≡◌, ◌<◌, ℕ, length, slice_index}
use Rattle.sc_graph.specs.Tables.{priority}
use Rattle.tick_core.proofs.sorting.priorities_of.Given as goal

abbrev pub invariant-loop-node : goal.invariant-loop-node
invariant-loop-node l = record {
  long : length l.found.items ≡ l.node;
  are : (n : ℕ) → n < l.node → slice_index l.found.items n ≡ priority l.tables n;
}
