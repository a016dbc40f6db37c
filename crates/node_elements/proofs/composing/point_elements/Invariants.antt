use Rattle.std.proofs.Common.{◌≡◌, ◌++◌, map, drop}
use Rattle.node_elements.specs.Origins.{through}
use Rattle.node_elements.proofs.composing.point_elements.Given as goal

abbrev pub invariant-loop-point : goal.invariant-loop-point
invariant-loop-point l =
    l.elements ++ map (through l.expansion) (drop l.point-index l.point-items) ≡ map (through l.expansion) l.point-items
