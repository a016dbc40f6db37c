use Rattle.std.proofs.Common.{arith}
use Rattle.std.proofs.lemmas.Grind.{common_steps}
use Rattle.abort_expansion.proofs.flags.has_join.Goals as goal

pub returns-then-is_join : goal.returns-then-is_join
returns-then-is_join c = grind (arith, common_steps) steps 2000000

pub loop-transition-preserved : goal.loop-transition-preserved
loop-transition-preserved c = grind (arith, common_steps) steps 2000000

pub returns : goal.returns
returns c = grind (arith, common_steps) steps 2000000
