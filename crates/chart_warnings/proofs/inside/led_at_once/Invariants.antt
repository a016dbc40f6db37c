use Rattle.std.proofs.Common.{◌≡◌, ◌++◌, ◌+◌, None, drop}
use Rattle.chart_warnings.specs.Warnings.{led_at_once, of_turn, tested_at_once}
use Rattle.chart_warnings.proofs.Turns.{from_turn}
use Rattle.chart_warnings.proofs.inside.led_at_once.Given as goal

abbrev pub invariant-loop-round : goal.invariant-loop-round
invariant-loop-round l = led_at_once l.before (from_turn l.round l.transitions) ≡ led_at_once None (tested_at_once l.transitions)

abbrev pub invariant-loop-transition : goal.invariant-loop-transition
invariant-loop-transition l =
    led_at_once l.before (of_turn l.round (drop l.transition-index l.transitions) ++ from_turn (l.round + 1) l.transitions) ≡
    led_at_once None (tested_at_once l.transitions)
