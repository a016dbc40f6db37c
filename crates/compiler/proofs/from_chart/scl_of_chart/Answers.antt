use Rattle.std.proofs.lemmas.Grind.{common_steps}
use Rattle.std.proofs.Common.{arith}
use Rattle.compiler.proofs.from_chart.scl_of_chart.Goals as goal

pub returns-in-Ok-lower-clause-scl : goal.returns-in-Ok-lower-clause-scl
returns-in-Ok-lower-clause-scl c = grind (arith, common_steps) steps 2000000
