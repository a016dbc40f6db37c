use Rattle.std.proofs.Common.{◌≡◌, drop}
use Rattle.chart_warnings.specs.Allowance.{has}
use Rattle.chart_warnings.proofs.texts.allowance.has.Given as goal

abbrev pub invariant-loop-at : goal.invariant-loop-at
invariant-loop-at l = has l.piece (drop l.at l.line) ≡ has l.piece l.line
