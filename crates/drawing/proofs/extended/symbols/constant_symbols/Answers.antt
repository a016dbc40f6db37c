use Rattle.std.proofs.Common.{arith}
use Rattle.std.proofs.lemmas.Grind.{common_steps}
use Rattle.drawing.proofs.extended.symbols.constant_symbols.Goals as goal

pub loop-constant-preserved : goal.loop-constant-preserved
loop-constant-preserved c = grind (arith, common_steps) steps 2000000
