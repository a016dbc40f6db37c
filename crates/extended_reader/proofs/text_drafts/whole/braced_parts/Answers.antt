use Rattle.std.proofs.lemmas.Grind.{common_steps}
use Rattle.std.proofs.Common.{arith}
use Rattle.extended_reader.proofs.text_drafts.whole.braced_parts.Goals as goal

pub returns-in_err-skip_sign-2 : goal.returns-in_err-skip_sign-2
returns-in_err-skip_sign-2 c = grind (arith, common_steps) steps 2000000

pub returns : goal.returns
returns c = grind (arith, common_steps) steps 2000000
