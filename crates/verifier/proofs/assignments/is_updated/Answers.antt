use Rattle.std.proofs.Common.{arith}
use Rattle.std.proofs.lemmas.Grind.{common_steps}
use Rattle.verifier.proofs.assignments.is_updated.Goals as goal

pub returns-then-ne : goal.returns-then-ne
returns-then-ne c = grind (arith, common_steps) steps 2000000

pub returns-then-not-is_written : goal.returns-then-not-is_written
returns-then-not-is_written c = grind (arith, common_steps) steps 2000000
