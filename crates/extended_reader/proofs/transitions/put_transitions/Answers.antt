use Rattle.std.proofs.lemmas.Grind.{common_steps}
use Rattle.std.proofs.Common.{arith}
use Rattle.extended_reader.proofs.transitions.put_transitions.Goals as goal

pub returns-clause-left : goal.returns-clause-left
returns-clause-left c = grind (arith, common_steps) steps 2000000

pub loop-text-preserved : goal.loop-text-preserved
loop-text-preserved c = grind (arith, common_steps) steps 2000000
