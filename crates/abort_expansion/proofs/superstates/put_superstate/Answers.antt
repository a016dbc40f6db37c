use Rattle.std.proofs.lemmas.Grind.{elements}
use Rattle.std.proofs.Common.{arith}
use Rattle.abort_expansion.proofs.superstates.put_superstate.Goals as goal

pub returns-then-stays : goal.returns-then-stays
returns-then-stays c = grind (arith, elements) steps 2000000

pub returns-else-stays : goal.returns-else-stays
returns-else-stays c = grind (arith, elements) steps 2000000
