use Rattle.std.proofs.Common.{◌≡◌, ◌++◌, drop}
use Rattle.abort_expansion.specs.Transitions.{strong_checks}
use Rattle.abort_expansion.proofs.checks.put_strong_checks.Given as goal

abbrev pub invariant-loop-flags : goal.invariant-loop-flags
invariant-loop-flags l =
    l.made ++ strong_checks l.immediate l.left (drop l.flags-index l.around) ≡ l.fn.made ++ strong_checks l.immediate l.left l.around
