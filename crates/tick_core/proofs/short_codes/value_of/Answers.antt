use Rattle.std.proofs.lemmas.Grind.{elements}
use Rattle.std.proofs.Common.{arith}
use Rattle.tick_core.proofs.short_codes.value_of.Goals as goal

pub returns-in-Load : goal.returns-in-Load
returns-in-Load c = grind (arith, elements) steps 2000000
