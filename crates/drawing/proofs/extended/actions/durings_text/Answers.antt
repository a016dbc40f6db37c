use Rattle.std.proofs.Common.{arith}
use Rattle.std.proofs.lemmas.Grind.{common_steps}
use Rattle.drawing.proofs.extended.actions.durings_text.Goals as goal

pub returns : goal.returns
returns c = grind (arith, common_steps) steps 2000000

pub loop-during-preserved : goal.loop-during-preserved
loop-during-preserved c = grind (arith, common_steps) steps 2000000
