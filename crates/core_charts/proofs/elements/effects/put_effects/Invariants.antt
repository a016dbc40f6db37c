use Rattle.std.proofs.Common.{◌≡◌, ◌++◌, drop}
use Rattle.core_charts.specs.Numbers.{effects}
use Rattle.core_charts.proofs.elements.effects.put_effects.Given as goal

abbrev pub invariant-loop : goal.invariant-loop
invariant-loop l = l.elements ++ effects (drop l.index l.own) l.here ≡ l.fn.elements ++ effects l.own l.number
