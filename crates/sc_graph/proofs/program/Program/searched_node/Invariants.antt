use Rattle.sc_graph.specs.Inside.Links.{IsLink}
use Rattle.sc_graph.proofs.Searching.{FoundBelow}
use Rattle.sc_graph.proofs.program.Program.searched_node.Given as goal

abbrev pub invariant-loop-node : goal.invariant-loop-node
invariant-loop-node l = FoundBelow (IsLink l.self l.link) l.found l.node
