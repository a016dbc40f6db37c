use Rattle.std.proofs.Common.{◌≡◌, ◌≤◌, ◌+◌, ◌*◌, drop, slice_index}
use Rattle.priority_weights.specs.Inside.Entries.{entry_sum}
use Rattle.priority_weights.proofs.weights.entry_sum.Given as goal

abbrev pub invariant-loop-child : goal.invariant-loop-child
invariant-loop-child l =
    (l.sum + entry_sum l.program (slice_index l.table) (drop l.child-index l.children) ≡ entry_sum l.program (slice_index l.table) l.children)
    × (l.sum ≤ 4294967295 * l.child-index)
