use Rattle.std.proofs.Common.{◌≡◌, drop}
use Rattle.node_elements.specs.ExpansionOrigins.{beside, weak_checks}
use Rattle.node_elements.proofs.expansion.transitions.put_weak_checks.Given as goal

abbrev pub invariant-loop-superstate : goal.invariant-loop-superstate
invariant-loop-superstate l =
    beside l.origins (weak_checks (drop l.superstate-index l.around)) ≡ beside l.fn.origins (weak_checks l.around)
