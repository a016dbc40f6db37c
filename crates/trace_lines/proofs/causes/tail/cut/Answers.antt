use Rattle.std.proofs.Common.{arith}
use Rattle.std.proofs.lemmas.Grind.{common_steps}
use Rattle.trace_lines.proofs.causes.tail.cut.Goals as goal

pub returns-clause-rest : goal.returns-clause-rest
returns-clause-rest c = grind (arith, common_steps) steps 2000000
