use Rattle.std.proofs.Common.{arith}
use Rattle.std.proofs.lemmas.Grind.{common_steps}
use Rattle.chart_lowering.proofs.regions.numbers_of.Goals as goal

pub returns-clause-end : goal.returns-clause-end
returns-clause-end c = grind (arith, common_steps) steps 2000000

pub returns-clause-states : goal.returns-clause-states
returns-clause-states c = grind (arith, common_steps) steps 2000000
