use Rattle.std.proofs.Common.{◌≡◌, drop}
use Rattle.node_elements.specs.LoweringOrigins.{behind_fork}
use Rattle.node_elements.proofs.lowering.states.put_behind_fork.Given as goal

abbrev pub invariant-loop-transition : goal.invariant-loop-transition
invariant-loop-transition l = (l.origins ≡ l.fn.origins) × (behind_fork (drop l.transition-index l.own) l.here ≡ behind_fork l.own l.fn.at)
