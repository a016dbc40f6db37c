use Rattle.verifier.specs.Inside.Each.{EachOf}
use Rattle.program_edges.specs.Extremes.{StandFor}
use Rattle.verifier.proofs.extremes.put_extremes.Given as goal

abbrev pub invariant-loop-x : goal.invariant-loop-x
invariant-loop-x l = EachOf (StandFor l.program l.tables.priorities l.extreme) l.x l.users l.lists
