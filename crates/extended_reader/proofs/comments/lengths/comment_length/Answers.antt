use Rattle.std.proofs.lemmas.Grind.{common_steps}
use Rattle.std.proofs.Common.{arith}
use Rattle.extended_reader.proofs.comments.lengths.comment_length.Goals as goal

pub returns-in_err-rest-in-47 : goal.returns-in_err-rest-in-47
returns-in_err-rest-in-47 c = grind (arith, common_steps) steps 2000000

pub returns-in_ok-rest-in-47 : goal.returns-in_ok-rest-in-47
returns-in_ok-rest-in-47 c = grind (arith, common_steps) steps 2000000
