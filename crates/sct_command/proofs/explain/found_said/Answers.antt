use Rattle.std.proofs.Common.{arith}
use Rattle.std.proofs.lemmas.Grind.{common_steps}
use Rattle.sct_command.proofs.explain.found_said.Goals as goal

pub returns : goal.returns
returns c = grind (arith, common_steps) steps 2000000
