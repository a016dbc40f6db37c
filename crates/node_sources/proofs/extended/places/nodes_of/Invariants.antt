use Rattle.std.proofs.Common.{◌≡◌, ◌++◌, drop}
use Rattle.node_sources.specs.Nodes.{nodes_from}
use Rattle.node_sources.proofs.extended.places.nodes_of.Given as goal

abbrev pub invariant-loop-number : goal.invariant-loop-number
invariant-loop-number l =
    l.nodes ++ nodes_from l.origins l.places l.program l.number (drop l.number l.elements) ≡
    nodes_from l.origins l.places l.program 0 l.elements
