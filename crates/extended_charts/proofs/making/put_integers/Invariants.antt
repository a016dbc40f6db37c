use Rattle.std.proofs.Common.{◌≡◌, ◌++◌}
use Rattle.extended_charts.specs.Making.{integers}
use Rattle.extended_charts.proofs.making.put_integers.Given as goal

abbrev pub invariant-loop-before : goal.invariant-loop-before
invariant-loop-before l = l.made ≡ l.fn.made ++ integers l.word l.before
