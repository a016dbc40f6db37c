use Rattle.std.proofs.lemmas.Grind.{elements}
use Rattle.std.proofs.Common.{arith}
use Rattle.tick_core.proofs.listed.stands_below.Goals as goal

pub returns-in-Some-get : goal.returns-in-Some-get
returns-in-Some-get c = grind (arith, elements) steps 2000000
