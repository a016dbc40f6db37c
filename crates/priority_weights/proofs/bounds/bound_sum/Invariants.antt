use Rattle.std.proofs.Common.{◌≡◌, ◌≤◌, ◌+◌, ◌*◌, drop, slice_index}
use Rattle.priority_weights.specs.Inside.Bounds.{bound_sum}
use Rattle.priority_weights.proofs.bounds.bound_sum.Given as goal

abbrev pub invariant-loop-child : goal.invariant-loop-child
invariant-loop-child l =
    (l.sum + bound_sum (slice_index l.bounds) (drop l.child-index l.children) ≡ bound_sum (slice_index l.bounds) l.children)
    × (l.sum ≤ 4294967295 * l.child-index)
