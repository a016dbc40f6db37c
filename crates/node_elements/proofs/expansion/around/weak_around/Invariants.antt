use Rattle.std.proofs.Common.{◌≡◌, drop}
use Rattle.node_elements.specs.ExpansionOrigins.{weak_around}
use Rattle.node_elements.proofs.expansion.around.weak_around.Given as goal

abbrev pub invariant-loop-superstate : goal.invariant-loop-superstate
invariant-loop-superstate l = weak_around (drop l.superstate-index l.around) ≡ weak_around l.around
