use Rattle.std.proofs.Common.{◌≡◌, drop}
use Rattle.core_charts.specs.Tests.{terminations}
use Rattle.abort_expansion.specs.Superstates.{closing}
use Rattle.abort_expansion.proofs.states.put_closing.Given as goal

abbrev pub invariant-loop-transition : goal.invariant-loop-transition
invariant-loop-transition l =
    (l.made ≡ l.fn.made)
    × (closing l.around l.flags l.at (terminations (drop l.transition-index l.own)) ≡ closing l.around l.flags l.at (terminations l.own))
