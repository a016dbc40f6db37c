use Rattle.std.proofs.lemmas.Grind.{elements}
use Rattle.std.proofs.Common.{arith}
use Rattle.core_charts.proofs.rules.Frame.is_effect.Goals as goal

pub returns-then-ne : goal.returns-then-ne
returns-then-ne c = grind (arith, elements) steps 2000000

pub returns-else-ne : goal.returns-else-ne
returns-else-ne c = grind (arith, elements) steps 2000000

pub returns-in-None : goal.returns-in-None
returns-in-None c = grind (arith, elements) steps 2000000
