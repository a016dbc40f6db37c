use Rattle.std.proofs.Common.{◌≡◌, ◌++◌, drop}
use Rattle.chart_machine.proofs.copies.copied_standings.Given as goal

abbrev pub invariant-loop-standing : goal.invariant-loop-standing
invariant-loop-standing l = l.copy ++ drop l.standing-index l.standings ≡ l.standings
