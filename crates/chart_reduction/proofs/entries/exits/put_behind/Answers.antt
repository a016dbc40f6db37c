use Rattle.std.proofs.Common.{arith}
use Rattle.std.proofs.lemmas.Grind.{common_steps}
use Rattle.chart_reduction.proofs.entries.exits.put_behind.Goals as goal

pub overflow_sub-len : goal.overflow_sub-len
overflow_sub-len c = grind (arith, common_steps) steps 2000000

pub returns-clause-place : goal.returns-clause-place
returns-clause-place c = grind (arith, common_steps) steps 2000000
