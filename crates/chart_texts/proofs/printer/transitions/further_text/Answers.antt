use Rattle.std.proofs.Common.{arith}
use Rattle.std.proofs.lemmas.Grind.{common_steps}
use Rattle.chart_texts.proofs.printer.transitions.further_text.Goals as goal

pub loop-effect-preserved : goal.loop-effect-preserved
loop-effect-preserved c = grind (arith, common_steps) steps 2000000

pub returns : goal.returns
returns c = grind (arith, common_steps) steps 2000000
