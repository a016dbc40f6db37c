use Rattle.std.proofs.Common.{arith}
use Rattle.std.proofs.lemmas.Grind.{common_steps}
use Rattle.chart_machine.proofs.copies.copied_standings.Goals as goal

pub loop-standing-preserved : goal.loop-standing-preserved
loop-standing-preserved c = grind (arith, common_steps) steps 2000000
