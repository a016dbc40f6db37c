use Rattle.std.proofs.lemmas.Grind.{common_steps}
use Rattle.std.proofs.Common.{arith}
use Rattle.chart_reduction.proofs.values.constants.put_valued_effects.Goals as goal

pub returns : goal.returns
returns c = grind (arith, common_steps) steps 2000000
