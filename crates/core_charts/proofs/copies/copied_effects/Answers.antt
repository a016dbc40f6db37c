use Rattle.std.proofs.Common.{arith}
use Rattle.std.proofs.lemmas.Grind.{common_steps}
use Rattle.core_charts.proofs.copies.copied_effects.Goals as goal

pub returns : goal.returns
returns c = grind (arith, common_steps) steps 2000000

pub loop-effect-preserved : goal.loop-effect-preserved
loop-effect-preserved c = grind (arith, common_steps) steps 2000000
