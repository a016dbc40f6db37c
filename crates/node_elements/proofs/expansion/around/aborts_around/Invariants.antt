use Rattle.std.proofs.Common.{◌≡◌, drop}
use Rattle.node_elements.specs.ExpansionOrigins.{aborts_around}
use Rattle.node_elements.proofs.expansion.around.aborts_around.Given as goal

abbrev pub invariant-loop-superstate : goal.invariant-loop-superstate
invariant-loop-superstate l = aborts_around (drop l.superstate-index l.around) ≡ aborts_around l.around
