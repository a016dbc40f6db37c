use Rattle.std.proofs.lemmas.Grind.{common_steps}
use Rattle.std.proofs.Common.{arith}
use Rattle.sc_values.proofs.code.Code.push_within.Goals as goal

pub returns-then-is_full : goal.returns-then-is_full
returns-then-is_full c = grind (arith, common_steps) steps 2000000
