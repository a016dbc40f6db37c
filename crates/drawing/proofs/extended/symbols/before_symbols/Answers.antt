use Rattle.std.proofs.Common.{arith}
use Rattle.std.proofs.lemmas.Grind.{common_steps}
use Rattle.drawing.proofs.extended.symbols.before_symbols.Goals as goal

pub loop-variable-preserved : goal.loop-variable-preserved
loop-variable-preserved c = grind (arith, common_steps) steps 2000000
