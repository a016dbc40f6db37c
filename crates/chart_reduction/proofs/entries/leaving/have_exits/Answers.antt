use Rattle.std.proofs.Common.{arith}
use Rattle.std.proofs.lemmas.Grind.{common_steps}
use Rattle.chart_reduction.proofs.entries.leaving.have_exits.Goals as goal

pub returns-then-has_exit : goal.returns-then-has_exit
returns-then-has_exit c = grind (arith, common_steps) steps 2000000

pub loop-state-preserved : goal.loop-state-preserved
loop-state-preserved c = grind (arith, common_steps) steps 2000000
