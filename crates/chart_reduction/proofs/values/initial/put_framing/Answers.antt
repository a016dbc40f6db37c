use Rattle.std.proofs.Common.{arith}
use Rattle.std.proofs.lemmas.Grind.{common_steps}
use Rattle.chart_reduction.proofs.values.initial.put_framing.Goals as goal

pub returns-clause-made : goal.returns-clause-made
returns-clause-made c = grind (arith, common_steps) steps 2000000

pub returns-clause-none : goal.returns-clause-none
returns-clause-none c = grind (arith, common_steps) steps 2000000
