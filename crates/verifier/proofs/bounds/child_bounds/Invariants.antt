use Rattle.std.proofs.Common.{◌≡◌, ◌≤◌, ◌+◌, ◌*◌, drop}
use Rattle.sc_graph.specs.Costs.{child_bounds}
use Rattle.verifier.proofs.bounds.child_bounds.Given as goal

abbrev pub invariant-loop-child : goal.invariant-loop-child
invariant-loop-child l =
    (l.sum + child_bounds l.tables (drop l.child-index l.children) ≡ child_bounds l.tables l.children)
    × (l.sum ≤ 4294967295 * l.child-index)
