use Rattle.std.proofs.Common.{arith}
use Rattle.std.proofs.lemmas.Grind.{common_steps, elements}
use Rattle.verifier.proofs.assignments.is_written.Goals as goal

pub returns-else-eq : goal.returns-else-eq
returns-else-eq c = grind (arith, common_steps) steps 2000000

pub returns-then-eq : goal.returns-then-eq
returns-then-eq c = grind (arith, elements) steps 2000000
