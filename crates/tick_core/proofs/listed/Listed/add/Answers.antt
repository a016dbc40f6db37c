use Rattle.std.proofs.Common.{arith}
use Rattle.std.proofs.lemmas.Grind.{common_steps, elements}
use Rattle.tick_core.proofs.listed.Listed.add.Goals as goal

pub returns-else-count-capacity : goal.returns-else-count-capacity
returns-else-count-capacity c = grind (arith, common_steps) steps 2000000

pub returns-then-count-capacity : goal.returns-then-count-capacity
returns-then-count-capacity c = grind (arith, common_steps) steps 2000000

pub returns-then-stands_below : goal.returns-then-stands_below
returns-then-stands_below c = grind (arith, elements) steps 2000000
