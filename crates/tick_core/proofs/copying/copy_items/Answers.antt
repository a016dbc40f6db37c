use Rattle.std.proofs.Common.{arith}
use Rattle.std.proofs.lemmas.Grind.{common_steps}
use Rattle.tick_core.proofs.copying.copy_items.Goals as goal

pub returns : goal.returns
returns g c = grind (arith, common_steps) steps 2000000

pub loop-at-preserved : goal.loop-at-preserved
loop-at-preserved g c = grind (arith, common_steps) steps 2000000
