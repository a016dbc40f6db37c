use Rattle.std.proofs.Common.{arith}
use Rattle.std.proofs.lemmas.Grind.{elements}
use Rattle.tick_core.proofs.inputs.is_accepted_at.Goals as goal

pub returns-then-names_input : goal.returns-then-names_input
returns-then-names_input c = grind (arith, elements) steps 2000000

pub returns-else-names_input : goal.returns-else-names_input
returns-else-names_input c = grind (arith, elements) steps 2000000
