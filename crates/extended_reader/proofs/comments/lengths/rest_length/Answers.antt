use Rattle.std.proofs.lemmas.Grind.{common_steps}
use Rattle.std.proofs.Common.{arith}
use Rattle.extended_reader.proofs.comments.lengths.rest_length.Goals as goal

pub returns-then-ends : goal.returns-then-ends
returns-then-ends c = grind (arith, common_steps) steps 2000000

pub loop-i-preserved : goal.loop-i-preserved
loop-i-preserved c = grind (arith, common_steps) steps 2000000

pub returns : goal.returns
returns c = grind (arith, common_steps) steps 2000000
