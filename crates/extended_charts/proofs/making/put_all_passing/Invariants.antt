use Rattle.std.proofs.Common.{◌≡◌, ◌++◌, drop}
use Rattle.extended_charts.specs.Making.{all_passing}
use Rattle.extended_charts.proofs.making.put_all_passing.Given as goal

abbrev pub invariant-loop-effect : goal.invariant-loop-effect
invariant-loop-effect l =
    l.made ++ all_passing l.place (drop l.effect-index l.effects) ≡ l.fn.made ++ all_passing l.first l.effects
