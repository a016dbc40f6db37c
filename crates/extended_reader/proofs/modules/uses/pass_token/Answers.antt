use Rattle.std.proofs.lemmas.Grind.{common_steps}
use Rattle.std.proofs.Common.{arith}
use Rattle.extended_reader.proofs.modules.uses.pass_token.Goals as goal

pub returns-in_ok-push-in-len1-up-clause-goes : goal.returns-in_ok-push-in-len1-up-clause-goes
returns-in_ok-push-in-len1-up-clause-goes c = grind (arith, common_steps) steps 2000000
