use Rattle.program_edges.proofs.Standing.{StandUpTo}
use Rattle.program_edges.proofs.extremes.extremes_of.Given as goal

abbrev pub invariant-loop-n : goal.invariant-loop-n
invariant-loop-n g l = StandUpTo l.program (g.N.Numbers.table l.numbers) l.extreme l.nodes l.chosen l.n-index
