use Rattle.std.proofs.Common.{arith}
use Rattle.std.proofs.lemmas.Grind.{common_steps, elements}
use Rattle.least_or_cycle.proofs.rising.raise_at.Goals as goal

pub returns-then-at-table : goal.returns-then-at-table
returns-then-at-table g c = grind (arith, elements) steps 2000000

pub returns-then-need-from : goal.returns-then-need-from
returns-then-need-from g c = grind (arith, elements) steps 2000000

pub returns-else-need-from-2 : goal.returns-else-need-from-2
returns-else-need-from-2 g c = grind (arith, elements) steps 2000000

pub returns-then-need-from-2 : goal.returns-then-need-from-2
returns-then-need-from-2 g c = grind (arith, common_steps) steps 2000000
