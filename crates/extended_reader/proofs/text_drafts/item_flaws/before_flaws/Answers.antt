use Rattle.std.proofs.lemmas.Grind.{common_steps}
use Rattle.std.proofs.Common.{arith}
use Rattle.extended_reader.proofs.text_drafts.item_flaws.before_flaws.Goals as goal

pub returns-then-is_name : goal.returns-then-is_name
returns-then-is_name c = grind (arith, common_steps) steps 2000000

pub returns-else-is_name : goal.returns-else-is_name
returns-else-is_name c = grind (arith, common_steps) steps 2000000
