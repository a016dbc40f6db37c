use Rattle.std.proofs.lemmas.Grind.{common_steps}
use Rattle.std.proofs.Common.{arith}
use Rattle.sc_text.proofs.piece.Row.length.Goals as goal

pub returns-then-not-has : goal.returns-then-not-has
returns-then-not-has c = grind (arith, common_steps) steps 2000000

pub loop-i-preserved : goal.loop-i-preserved
loop-i-preserved c = grind (arith, common_steps) steps 2000000

pub returns : goal.returns
returns c = grind (arith, common_steps) steps 2000000
