use Rattle.program_edges.specs.Inside.Candidates.{StandFor}
use Rattle.program_edges.proofs.candidates.candidates.Given as goal

abbrev pub invariant-loop-node : goal.invariant-loop-node
invariant-loop-node l = StandFor l.program l.nodes l.kept.items l.node-index
