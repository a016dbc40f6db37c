use Rattle.std.proofs.Common.{◌≡◌, drop}
use Rattle.node_elements.specs.ExpansionOrigins.{beside, chosen, taken}
use Rattle.node_elements.proofs.expansion.transitions.put_chosen.Given as goal

abbrev pub invariant-loop-transition : goal.invariant-loop-transition
invariant-loop-transition l =
    beside l.origins (chosen l.choice (taken l.to) (drop l.transition-index l.own) l.here) ≡ beside l.fn.origins
    (chosen l.choice (taken l.to) l.own l.fn.at)
