use Rattle.std.proofs.lemmas.Grind.{elements}
use Rattle.std.proofs.Common.{arith}
use Rattle.tick_core.proofs.given.is_given.Goals as goal

pub returns-in-Some-Some : goal.returns-in-Some-Some
returns-in-Some-Some c = grind (arith, elements) steps 2000000

pub returns-in-Some-None-2 : goal.returns-in-Some-None-2
returns-in-Some-None-2 c = grind (arith, elements) steps 2000000

pub returns-in-Some-None : goal.returns-in-Some-None
returns-in-Some-None c = grind (arith, elements) steps 2000000
