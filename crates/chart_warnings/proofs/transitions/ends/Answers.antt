use Rattle.std.proofs.lemmas.Grind.{common_steps}
use Rattle.std.proofs.Common.{arith}
use Rattle.chart_warnings.proofs.transitions.ends.Goals as goal

pub returns-then-state : goal.returns-then-state
returns-then-state c = grind (arith, common_steps) steps 2000000
