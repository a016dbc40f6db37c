use Rattle.std.proofs.Common.{arith}
use Rattle.std.proofs.lemmas.Grind.{common_steps}
use Rattle.chart_reduction.proofs.entries.histories.put_histories.Goals as goal

pub returns : goal.returns
returns c = grind (arith, common_steps) steps 2000000

pub returns-then-has_some : goal.returns-then-has_some
returns-then-has_some c = grind (arith, common_steps) steps 2000000
