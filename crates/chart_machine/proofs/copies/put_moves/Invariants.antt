use Rattle.std.proofs.Common.{◌≡◌, ◌++◌, drop}
use Rattle.chart_machine.proofs.copies.put_moves.Given as goal

abbrev pub invariant-loop-one : goal.invariant-loop-one
invariant-loop-one l = l.made ++ drop l.one-index l.moves ≡ l.initial.made ++ l.moves
