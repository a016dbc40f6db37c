use Rattle.std.proofs.Common.{◌≡◌, take}
use Rattle.chart_texts.proofs.printer.same_rows.are_same_rows.Given as goal

abbrev pub invariant-loop-i : goal.invariant-loop-i
invariant-loop-i g l = take l.i l.ones ≡ take l.i l.others
