use Rattle.std.proofs.Common.{arith}
use Rattle.std.proofs.lemmas.Grind.{common_steps}
use Rattle.core_charts.proofs.rules.is_bare_if_final.Goals as goal

pub returns-then-not-state : goal.returns-then-not-state
returns-then-not-state c = grind (arith, common_steps) steps 2000000

pub returns-else-is_empty : goal.returns-else-is_empty
returns-else-is_empty c = grind (arith, common_steps) steps 2000000

pub returns-then-is_empty : goal.returns-then-is_empty
returns-then-is_empty c = grind (arith, common_steps) steps 2000000
