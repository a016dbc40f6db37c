use Rattle.compiled_charts.specs.Inside.Ran.{RanTo}
use Rattle.compiled_charts.proofs.running.run_all.Given as goal

abbrev pub invariant-loop-at : goal.invariant-loop-at
invariant-loop-at g l = RanTo l.verified l.ticks l.at l.present l.controls
