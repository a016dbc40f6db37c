use Rattle.std.proofs.lemmas.Grind.{common_steps}
use Rattle.std.proofs.Common.{arith}
use Rattle.extended_charts.proofs.copies.put_copied_durings.Goals as goal

pub loop-during-preserved : goal.loop-during-preserved
loop-during-preserved c = grind (arith, common_steps) steps 2000000
