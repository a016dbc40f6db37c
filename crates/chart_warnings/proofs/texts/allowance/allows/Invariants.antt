use Rattle.std.proofs.Common.{◌≡◌, drop}
use Rattle.chart_warnings.specs.Allowance.{allows}
use Rattle.chart_warnings.proofs.texts.allowance.allows.Given as goal

abbrev pub invariant-loop-at : goal.invariant-loop-at
invariant-loop-at l = allows l.code (drop l.at l.line) ≡ allows l.code l.line
