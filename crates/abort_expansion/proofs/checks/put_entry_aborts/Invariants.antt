use Rattle.std.proofs.Common.{◌≡◌, ◌++◌, map, drop}
use Rattle.core_charts.specs.Tests.{at_once, strong_aborts}
use Rattle.abort_expansion.specs.Transitions.{led_by}
use Rattle.abort_expansion.proofs.checks.put_entry_aborts.Given as goal

abbrev pub invariant-loop-transition : goal.invariant-loop-transition
invariant-loop-transition l =
    l.made ++ map (λ t. led_by l.at t.trigger t) (at_once (strong_aborts (drop l.transition-index l.own))) ≡
    l.fn.made ++ map (λ t. led_by l.at t.trigger t) (at_once (strong_aborts l.own))
