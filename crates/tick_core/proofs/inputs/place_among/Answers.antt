use Rattle.std.proofs.Common.{arith}
use Rattle.std.proofs.lemmas.Grind.{elements}
use Rattle.tick_core.proofs.inputs.place_among.Goals as goal

pub returns-then-is_for : goal.returns-then-is_for
returns-then-is_for c = grind (arith, elements) steps 2000000

pub loop-place-preserved : goal.loop-place-preserved
loop-place-preserved c = grind (arith, elements) steps 2000000

pub returns : goal.returns
returns c = grind (arith, elements) steps 2000000
