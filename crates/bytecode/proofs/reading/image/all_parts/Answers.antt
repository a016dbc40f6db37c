use Rattle.std.proofs.Common.{arith}
use Rattle.std.proofs.lemmas.Grind.{common_steps}
use Rattle.bytecode.proofs.reading.image.all_parts.Goals as goal

pub returns-clause-nodes : goal.returns-clause-nodes
returns-clause-nodes c = grind (arith, common_steps) steps 2000000

pub returns-clause-threads : goal.returns-clause-threads
returns-clause-threads c = grind (arith, common_steps) steps 2000000
