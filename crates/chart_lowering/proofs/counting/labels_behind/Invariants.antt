use Rattle.std.proofs.Common.{◌≡◌, drop}
use Rattle.core_charts.specs.Tests.{terminations}
use Rattle.chart_lowering.proofs.counting.labels_behind.Given as goal

abbrev pub invariant-loop-transition : goal.invariant-loop-transition
invariant-loop-transition l = terminations (drop l.transition-index l.transitions) ≡ terminations l.transitions
