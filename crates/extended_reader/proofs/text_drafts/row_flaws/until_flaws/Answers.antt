use Rattle.std.proofs.lemmas.Grind.{common_steps}
use Rattle.std.proofs.Common.{arith}
use Rattle.extended_reader.proofs.text_drafts.row_flaws.until_flaws.Goals as goal

pub returns-in_ok-word_flaws-in-Some : goal.returns-in_ok-word_flaws-in-Some
returns-in_ok-word_flaws-in-Some c = grind (arith, common_steps) steps 2000000
