use Rattle.std.proofs.lemmas.Grind.{common_steps}
use Rattle.std.proofs.Common.{arith}
use Rattle.embedded_machine.proofs.inputs.give_all.Goals as goal

pub give-requires : goal.give-requires
give-requires c = grind (arith, common_steps) steps 2000000

pub returns-in_err-given-clause-lacks : goal.returns-in_err-given-clause-lacks
returns-in_err-given-clause-lacks c = grind (arith, common_steps) steps 2000000

pub loop-at-preserved : goal.loop-at-preserved
loop-at-preserved c = grind (arith, common_steps) steps 2000000
