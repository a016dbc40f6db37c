use Rattle.std.proofs.Common.{List, [], ◌∷◌, drop}
use Rattle.sc_graph.specs.declared.program.Node.{Node}
use Rattle.sc_graph.specs.declared.program.Thread.{Thread}
use Rattle.scl_graph.specs.Counting.{counts_of_all}
use Rattle.scl_graph.specs.Inside.Laying.{HasRoom}
use Rattle.scl_graph.specs.Inside.Forking.{AreBranchesLaid, AreForkedLaid, HasBranchesRoom}
use Rattle.scl_graph.proofs.forking.+forking.Given as goal

abbrev pub invariant-lay_forked-loop-i : goal.invariant-lay_forked-loop-i
invariant-lay_forked-loop-i g l = record {
  room : HasRoom l.here (counts_of_all (drop l.i l.statements));
  laid : (news : List Thread) (new : List Node) → AreForkedLaid (g.T.Targets.target l.targets) l.owner (drop l.i l.statements) l.here l.laid.threads news
      l.laid.nodes new → AreForkedLaid (g.T.Targets.target l.targets) l.owner l.statements l.fn.at l.initial.laid.threads news l.initial.laid.nodes new;
}

abbrev pub invariant-lay_forked_by-loop-place : goal.invariant-lay_forked_by-loop-place
invariant-lay_forked_by-loop-place g l = record {
  room : HasBranchesRoom l.here (drop l.place l.bodies);
  laid : (news : List Thread) (new : List Node) → AreBranchesLaid (g.T.Targets.target l.targets) l.owner (drop l.place l.bodies) l.here l.laid.threads news
      l.laid.nodes new → AreForkedLaid (g.T.Targets.target l.targets) l.owner (l.statement ∷ []) l.fn.at l.initial.laid.threads news l.initial.laid.nodes
      new;
}
