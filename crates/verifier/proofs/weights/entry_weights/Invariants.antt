use Rattle.std.proofs.Common.{◌≡◌, ◌≤◌, ◌+◌, ◌*◌, drop}
use Rattle.sc_graph.specs.Costs.{entry_weights}
use Rattle.verifier.proofs.weights.entry_weights.Given as goal

abbrev pub invariant-loop-child : goal.invariant-loop-child
invariant-loop-child l =
    (l.sum + entry_weights l.program l.tables (drop l.child-index l.children) ≡ entry_weights l.program l.tables l.children)
    × (l.sum ≤ 65535 * l.child-index)
