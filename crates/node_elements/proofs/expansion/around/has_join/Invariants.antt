use Rattle.std.proofs.Common.{◌≡◌, drop}
use Rattle.abort_expansion.specs.Flags.{has_join}
use Rattle.node_elements.proofs.expansion.around.has_join.Given as goal

abbrev pub invariant-loop-transition : goal.invariant-loop-transition
invariant-loop-transition l = has_join (drop l.transition-index l.own) ≡ has_join l.own
