use Rattle.std.proofs.lemmas.Grind.{elements}
use Rattle.std.proofs.Common.{arith}
use Rattle.tick_core.proofs.stepping.update.Goals as goal

pub returns : goal.returns
returns c = grind (arith, elements) steps 2000000
