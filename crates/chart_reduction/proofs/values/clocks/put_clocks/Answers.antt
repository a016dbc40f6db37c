use Rattle.std.proofs.Common.{arith}
use Rattle.std.proofs.lemmas.Grind.{common_steps, elements}
use Rattle.chart_reduction.proofs.values.clocks.put_clocks.Goals as goal

pub returns-then-count-eq0 : goal.returns-then-count-eq0
returns-then-count-eq0 c = grind (arith, elements) steps 2000000

pub returns : goal.returns
returns c = grind (arith, common_steps) steps 2000000
