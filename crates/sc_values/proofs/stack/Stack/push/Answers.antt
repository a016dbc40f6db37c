use Rattle.std.proofs.lemmas.Grind.{common_steps}
use Rattle.std.proofs.Common.{arith}
use Rattle.sc_values.proofs.stack.Stack.push.Goals as goal

pub returns : goal.returns
returns g c = grind (arith, common_steps) steps 2000000

pub push-requires : goal.push-requires
push-requires g c = grind (arith, common_steps) steps 2000000
