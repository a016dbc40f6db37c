use Rattle.std.proofs.Common.{◌≡◌, ◌++◌, drop}
use Rattle.node_elements.specs.Origins.{composed}
use Rattle.node_elements.proofs.composing.composed.Given as goal

abbrev pub invariant-loop-node : goal.invariant-loop-node
invariant-loop-node l =
    l.elements ++ composed (drop l.node-index l.nodes) l.points l.expansion ≡ composed l.nodes l.points l.expansion
