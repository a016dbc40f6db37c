use Rattle.std.proofs.Common.{arith}
use Rattle.std.proofs.lemmas.Grind.{common_steps, elements}
use Rattle.sc_text.proofs.first_token.starts_comment.Goals as goal

pub returns-else-text-eq47 : goal.returns-else-text-eq47
returns-else-text-eq47 c = grind (arith, elements) steps 2000000

pub returns-then-text-eq47 : goal.returns-then-text-eq47
returns-then-text-eq47 c = grind (arith, common_steps) steps 2000000
