use Rattle.std.proofs.lemmas.Grind.{common_steps}
use Rattle.std.proofs.Common.{arith}
use Rattle.chart_warnings.proofs.texts.allowance.allows_at.Goals as goal

pub returns-then-starts_with : goal.returns-then-starts_with
returns-then-starts_with c = grind (arith, common_steps) steps 2000000

pub returns-in-None : goal.returns-in-None
returns-in-None c = grind (arith, common_steps) steps 2000000

pub returns-else-starts_with : goal.returns-else-starts_with
returns-else-starts_with c = grind (arith, common_steps) steps 2000000
