use Rattle.std.proofs.lemmas.Grind.{common_steps}
use Rattle.std.proofs.Common.{arith}
use Rattle.chart_texts.proofs.printer.transitions.effects_text.Goals as goal

pub returns-in_ok-others-in-len1-up : goal.returns-in_ok-others-in-len1-up
returns-in_ok-others-in-len1-up c = grind (arith, common_steps) steps 2000000
