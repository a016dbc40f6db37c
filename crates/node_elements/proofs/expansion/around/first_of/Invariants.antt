use Rattle.std.proofs.Common.{◌≡◌, drop}
use Rattle.node_elements.specs.ExpansionOrigins.{first_of}
use Rattle.node_elements.proofs.expansion.around.first_of.Given as goal

abbrev pub invariant-loop-transition : goal.invariant-loop-transition
invariant-loop-transition l = first_of l.sort (drop l.transition-index l.own) l.here ≡ first_of l.sort l.own l.number
