use Rattle.std.proofs.Common.{◌≡◌, ◌++◌, drop, take}
use Rattle.chart_warnings.specs.Lines.{first_line}
use Rattle.chart_warnings.proofs.texts.lines.first_line.Given as goal

abbrev pub invariant-loop-at : goal.invariant-loop-at
invariant-loop-at l = take l.at l.text ++ first_line (drop l.at l.text) ≡ first_line l.text
