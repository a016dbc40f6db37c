use Rattle.std.proofs.lemmas.Grind.{common_steps}
use Rattle.std.proofs.Common.{arith}
use Rattle.chart_lowering.proofs.transitions.all_transitions.Goals as goal

pub returns-then-not-branch : goal.returns-then-not-branch
returns-then-not-branch c = grind (arith, common_steps) steps 2000000

pub loop-transition-preserved : goal.loop-transition-preserved
loop-transition-preserved c = grind (arith, common_steps) steps 2000000

pub returns : goal.returns
returns c = grind (arith, common_steps) steps 2000000
