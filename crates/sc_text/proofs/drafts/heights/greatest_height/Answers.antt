use Rattle.std.proofs.lemmas.Grind.{common_steps}
use Rattle.std.proofs.Common.{arith}
use Rattle.sc_text.proofs.drafts.heights.greatest_height.Goals as goal

pub loop-operation-preserved : goal.loop-operation-preserved
loop-operation-preserved c = grind (arith, common_steps) steps 2000000

pub returns : goal.returns
returns c = grind (arith, common_steps) steps 2000000
