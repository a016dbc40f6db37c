use Rattle.std.proofs.Common.{◌≡◌, drop}
use Rattle.node_elements.specs.ExpansionOrigins.{closing}
use Rattle.node_elements.proofs.expansion.states.put_closing.Given as goal

abbrev pub invariant-loop-transition : goal.invariant-loop-transition
invariant-loop-transition l =
    (l.origins ≡ l.fn.origins) × (closing (drop l.transition-index l.own) l.around l.to l.here ≡ closing l.own l.around l.to l.fn.at)
