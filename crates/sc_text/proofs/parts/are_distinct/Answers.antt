use Rattle.std.proofs.lemmas.Grind.{common_steps}
use Rattle.std.proofs.Common.{arith}
use Rattle.sc_text.proofs.parts.are_distinct.Goals as goal

pub returns-then-is_among : goal.returns-then-is_among
returns-then-is_among c = grind (arith, common_steps) steps 2000000

pub loop-at-preserved : goal.loop-at-preserved
loop-at-preserved c = grind (arith, common_steps) steps 2000000

pub returns : goal.returns
returns c = grind (arith, common_steps) steps 2000000
