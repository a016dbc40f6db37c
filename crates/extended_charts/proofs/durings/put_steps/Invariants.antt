use Rattle.std.proofs.Common.{◌≡◌, ◌++◌, drop}
use Rattle.extended_charts.specs.Durings.{steps}
use Rattle.extended_charts.proofs.durings.put_steps.Given as goal

abbrev pub invariant-loop-during : goal.invariant-loop-during
invariant-loop-during l =
    l.made ++ steps l.place (drop l.during-index l.durings) ≡ l.fn.made ++ steps l.first l.durings
