use Rattle.std.proofs.Common.{◌≡◌, drop}
use Rattle.node_elements.specs.ExpansionOrigins.{beside, strong_checks}
use Rattle.node_elements.proofs.expansion.transitions.put_strong_checks.Given as goal

abbrev pub invariant-loop-superstate : goal.invariant-loop-superstate
invariant-loop-superstate l =
    beside l.origins (strong_checks (drop l.superstate-index l.around)) ≡ beside l.fn.origins (strong_checks l.around)
