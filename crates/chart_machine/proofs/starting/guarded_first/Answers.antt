use Rattle.std.proofs.Common.{arith}
use Rattle.std.proofs.lemmas.Grind.{common_steps}
use Rattle.chart_machine.proofs.starting.guarded_first.Goals as goal

pub returns : goal.returns
returns c = grind (arith, common_steps) steps 2000000

pub returns-then-not-is_empty : goal.returns-then-not-is_empty
returns-then-not-is_empty c = grind (arith, common_steps) steps 2000000
