use Rattle.std.proofs.lemmas.Grind.{common_steps}
use Rattle.std.proofs.Common.{arith}
use Rattle.extended_reader.proofs.text_drafts.item_flaws.worded_flaws.Goals as goal

pub returns-then-eq : goal.returns-then-eq
returns-then-eq c = grind (arith, common_steps) steps 2000000

pub returns : goal.returns
returns c = grind (arith, common_steps) steps 2000000

pub returns-then-eq-2 : goal.returns-then-eq-2
returns-then-eq-2 c = grind (arith, common_steps) steps 2000000
