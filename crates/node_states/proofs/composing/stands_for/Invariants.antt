use Rattle.std.proofs.Common.{◌≡◌, ◌++◌, map, drop}
use Rattle.node_states.specs.StandsFor.{past_core}
use Rattle.node_states.proofs.composing.stands_for.Given as goal

abbrev pub invariant-loop-node : goal.invariant-loop-node
invariant-loop-node l = l.nodes ++ map (past_core l.states.states) (drop l.node-index l.node-items) ≡ map (past_core l.states.states) l.node-items
