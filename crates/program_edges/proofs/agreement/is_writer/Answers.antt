use Rattle.std.proofs.Common.{arith}
use Rattle.std.proofs.lemmas.Grind.{common_steps}
use Rattle.program_edges.proofs.agreement.is_writer.Goals as goal

pub returns-in-Init : goal.returns-in-Init
returns-in-Init c = grind (arith, common_steps) steps 2000000

pub returns-in-Read : goal.returns-in-Read
returns-in-Read c = grind (arith, common_steps) steps 2000000

pub returns-in-Update : goal.returns-in-Update
returns-in-Update c = grind (arith, common_steps) steps 2000000
