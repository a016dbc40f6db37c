use Rattle.std.proofs.Common.{◌≡◌, drop}
use Rattle.scl_graph.specs.Inside.Laying.{way_in}
use Rattle.scl_graph.proofs.way.way_of.Given as goal

abbrev pub invariant-loop-statement : goal.invariant-loop-statement
invariant-loop-statement l = way_in (drop l.statement-index l.statements) l.next l.behind ≡ way_in l.statements l.next l.behind
