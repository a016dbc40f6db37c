use Rattle.std.proofs.Common.{◌≡◌, drop}
use Rattle.node_elements.specs.declared.expansion.transitions.Choice.TheVariants as choice
use Rattle.node_elements.specs.ExpansionOrigins.{beside, chosen, raised}
use Rattle.node_elements.proofs.expansion.transitions.put_all_raised.Given as goal

abbrev pub invariant-loop-transition : goal.invariant-loop-transition
invariant-loop-transition l =
    beside l.origins (chosen (choice.Of l.sort) (λ t. raised) (drop l.transition-index l.own) l.here) ≡ beside l.fn.origins
    (chosen (choice.Of l.sort) (λ t. raised) l.own l.fn.at)
