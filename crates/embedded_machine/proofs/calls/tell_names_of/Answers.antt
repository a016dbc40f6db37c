use Rattle.std.proofs.lemmas.Grind.{common_steps}
use Rattle.std.proofs.Common.{arith}
use Rattle.embedded_machine.proofs.calls.tell_names_of.Goals as goal

pub returns-clause-asked : goal.returns-clause-asked
returns-clause-asked c = grind (arith, common_steps) steps 2000000

pub put_rows-requires : goal.put_rows-requires
put_rows-requires c = grind (arith, common_steps) steps 2000000
