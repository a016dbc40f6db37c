use Rattle.std.proofs.Common.{arith, rules}
use Rattle.std.proofs.lemmas.Grind.{common_steps}
use Rattle.sct_command.proofs.explain.tell.Goals as goal

pub returns-clause-refused : goal.returns-clause-refused
returns-clause-refused g c = grind (arith, common_steps) steps 2000000

pub returns-clause-told : goal.returns-clause-told
returns-clause-told g c = search rules
