use Rattle.std.proofs.Common.{arith}
use Rattle.std.proofs.lemmas.Grind.{elements}
use Rattle.extended_charts.proofs.reading.Reading.read.Goals as goal

pub returns-in-Values : goal.returns-in-Values
returns-in-Values c = grind (arith, elements) steps 2000000

pub returns-in_ok-at-in-Elapsed : goal.returns-in_ok-at-in-Elapsed
returns-in_ok-at-in-Elapsed c = grind (arith, elements) steps 2000000

pub returns-else-x-eq-ELAPSED : goal.returns-else-x-eq-ELAPSED
returns-else-x-eq-ELAPSED c = grind (arith, elements) steps 2000000

pub returns-in_ok-count_variable-in-Counted : goal.returns-in_ok-count_variable-in-Counted
returns-in_ok-count_variable-in-Counted c = grind (arith, elements) steps 2000000
