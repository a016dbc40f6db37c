use Rattle.std.proofs.Common.{◌≡◌, ◌++◌, drop, filter}
use Rattle.chart_machine.specs.Inside.{is_chosen}
use Rattle.chart_machine.proofs.chosen.put_chosen.Given as goal

abbrev pub invariant-loop-transition : goal.invariant-loop-transition
invariant-loop-transition l =
    l.chosen ++ filter (is_chosen l.choice) (drop l.transition-index l.transitions) ≡
    l.initial.chosen ++ filter (is_chosen l.choice) l.transitions
