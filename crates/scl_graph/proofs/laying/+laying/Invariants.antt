use Rattle.std.proofs.Common.{◌≡◌, List, drop}
use Rattle.sc_graph.specs.declared.program.Node.{Node}
use Rattle.scl_graph.specs.Counting.{counts_of_all}
use Rattle.scl_graph.specs.Inside.Laying.{HasRoom, IsLaid, way_in}
use Rattle.scl_graph.proofs.laying.+laying.Given as goal

abbrev pub invariant-lay-loop-i : goal.invariant-lay-loop-i
invariant-lay-loop-i g l = record {
  room : HasRoom l.here (counts_of_all (drop l.i l.statements));
  ahead : l.ahead ≡ way_in (drop l.i l.statements) l.here.node l.behind;
  laid : (new : List Node) → IsLaid (g.T.Targets.target l.targets) l.owner (drop l.i l.statements) l.here l.behind l.nodes new
      → IsLaid (g.T.Targets.target l.targets) l.owner l.statements l.fn.at l.behind l.initial.nodes new;
}
