use Rattle.std.proofs.Common.{arith}
use Rattle.std.proofs.lemmas.Grind.{common_steps, elements}
use Rattle.tick_core.proofs.sorting.sort_all.Goals as goal

pub returns-clause-rows : goal.returns-clause-rows
returns-clause-rows c = grind (arith, elements) steps 2000000

pub loop-thread-preserved : goal.loop-thread-preserved
loop-thread-preserved c = grind (arith, common_steps) steps 2000000

pub returns-clause-sorted : goal.returns-clause-sorted
returns-clause-sorted c = grind (arith, common_steps) steps 2000000
