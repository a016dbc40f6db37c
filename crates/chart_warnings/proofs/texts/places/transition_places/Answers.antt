use Rattle.std.proofs.lemmas.Grind.{common_steps}
use Rattle.std.proofs.Common.{arith}
use Rattle.chart_warnings.proofs.texts.places.transition_places.Goals as goal

pub loop-transition-preserved : goal.loop-transition-preserved
loop-transition-preserved c = grind (arith, common_steps) steps 2000000
