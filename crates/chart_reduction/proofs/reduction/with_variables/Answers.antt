use Rattle.std.proofs.lemmas.Grind.{elements}
use Rattle.std.proofs.Common.{arith}
use Rattle.chart_reduction.proofs.reduction.with_variables.Goals as goal

pub returns : goal.returns
returns c = grind (arith, elements) steps 2000000
