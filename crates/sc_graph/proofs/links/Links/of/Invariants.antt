use Rattle.sc_graph.proofs.Linking.{TellsBelow}
use Rattle.sc_graph.proofs.links.Links.of.Given as goal

abbrev pub invariant-loop-node : goal.invariant-loop-node
invariant-loop-node l = TellsBelow l.program l.links l.node
