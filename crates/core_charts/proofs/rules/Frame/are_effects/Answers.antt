use Rattle.std.proofs.lemmas.Grind.{elements}
use Rattle.std.proofs.Common.{arith}
use Rattle.core_charts.proofs.rules.Frame.are_effects.Goals as goal

pub returns-then-not-is_effect : goal.returns-then-not-is_effect
returns-then-not-is_effect c = grind (arith, elements) steps 2000000

pub loop-effect-preserved : goal.loop-effect-preserved
loop-effect-preserved c = grind (arith, elements) steps 2000000

pub returns : goal.returns
returns c = grind (arith, elements) steps 2000000
