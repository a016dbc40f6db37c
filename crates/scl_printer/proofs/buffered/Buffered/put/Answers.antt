use Rattle.std.proofs.Common.{arith}
use Rattle.std.proofs.lemmas.Grind.{common_steps}
use Rattle.scl_printer.proofs.buffered.Buffered.put.Goals as goal

pub returns-then-not-holds-2 : goal.returns-then-not-holds-2
returns-then-not-holds-2 g c = grind (arith, common_steps) steps 2000000

pub returns-else-not-holds-2 : goal.returns-else-not-holds-2
returns-else-not-holds-2 g c = grind (arith, common_steps) steps 2000000

pub returns-else-not-holds : goal.returns-else-not-holds
returns-else-not-holds g c = grind (arith, common_steps) steps 2000000
