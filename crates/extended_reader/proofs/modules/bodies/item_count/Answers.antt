use Rattle.std.proofs.lemmas.Grind.{common_steps}
use Rattle.std.proofs.Common.{arith}
use Rattle.extended_reader.proofs.modules.bodies.item_count.Goals as goal

pub loop-at-preserved : goal.loop-at-preserved
loop-at-preserved c = grind (arith, common_steps) steps 2000000

pub returns-then-is_region-clause-count : goal.returns-then-is_region-clause-count
returns-then-is_region-clause-count c = grind (arith, common_steps) steps 2000000

pub returns-clause-count : goal.returns-clause-count
returns-clause-count c = grind (arith, common_steps) steps 2000000
