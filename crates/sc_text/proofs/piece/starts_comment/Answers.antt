use Rattle.std.proofs.Common.{arith}
use Rattle.std.proofs.lemmas.Grind.{common_steps}
use Rattle.sc_text.proofs.piece.starts_comment.Goals as goal

pub returns-then-text-eq47 : goal.returns-then-text-eq47
returns-then-text-eq47 c = grind (arith, common_steps) steps 2000000
