use Rattle.std.proofs.Common.{arith}
use Rattle.std.proofs.lemmas.Grind.{elements}
use Rattle.least_or_cycle.proofs.cycles.rotated.Goals as goal

pub returns : goal.returns
returns c = grind (arith, elements) steps 2000000
