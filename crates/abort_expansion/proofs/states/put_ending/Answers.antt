use Rattle.std.proofs.Common.{arith}
use Rattle.std.proofs.lemmas.Grind.{common_steps}
use Rattle.abort_expansion.proofs.states.put_ending.Goals as goal

pub returns-then-weak_around : goal.returns-then-weak_around
returns-then-weak_around c = grind (arith, common_steps) steps 2000000

pub returns-else-weak_around : goal.returns-else-weak_around
returns-else-weak_around c = grind (arith, common_steps) steps 2000000
