use Rattle.std.proofs.Common.{◌≡◌, ◌++◌, drop}
use Rattle.chart_lowering.specs.Lowering.{transitions}
use Rattle.chart_lowering.proofs.transitions.all_transitions.Given as goal

abbrev pub invariant-loop-transition : goal.invariant-loop-transition
invariant-loop-transition l = l.text ++ transitions l.at (drop l.transition-index l.all) l.fn.rest ≡ transitions l.at l.all l.fn.rest
