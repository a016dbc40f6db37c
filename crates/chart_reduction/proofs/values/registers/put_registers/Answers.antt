use Rattle.std.proofs.Common.{arith}
use Rattle.std.proofs.lemmas.Grind.{common_steps, elements}
use Rattle.chart_reduction.proofs.values.registers.put_registers.Goals as goal

pub returns-then-not-has_some : goal.returns-then-not-has_some
returns-then-not-has_some c = grind (arith, elements) steps 2000000

pub returns : goal.returns
returns c = grind (arith, common_steps) steps 2000000
