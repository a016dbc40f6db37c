use Rattle.std.proofs.lemmas.Grind.{common_steps}
use Rattle.std.proofs.Common.{arith}
use Rattle.extended_reader.proofs.transitions.until_trigger.Goals as goal

pub returns-in_ok-resolved-in-None : goal.returns-in_ok-resolved-in-None
returns-in_ok-resolved-in-None c = grind (arith, common_steps) steps 2000000
