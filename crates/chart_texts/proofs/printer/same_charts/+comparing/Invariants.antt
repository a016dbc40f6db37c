use Rattle.std.proofs.Common.{◌≡◌, take}
use Rattle.chart_texts.proofs.printer.same_charts.+comparing.Given as goal

abbrev pub invariant-are_same_regions-loop-i : goal.invariant-are_same_regions-loop-i
invariant-are_same_regions-loop-i l = take l.i l.ones ≡ take l.i l.others

abbrev pub invariant-are_same_states-loop-i : goal.invariant-are_same_states-loop-i
invariant-are_same_states-loop-i l = take l.i l.ones ≡ take l.i l.others
