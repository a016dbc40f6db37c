use Rattle.std.proofs.lemmas.Grind.{common_steps, elements}
use Rattle.std.proofs.Common.{arith}
use Rattle.sc_text.proofs.drafts.kinds.Kinds.is_alone.Goals as goal

pub returns-in_default : goal.returns-in_default
returns-in_default c = grind (arith, elements) steps 2000000

pub returns-in_default-2 : goal.returns-in_default-2
returns-in_default-2 c = grind (arith, elements) steps 2000000

pub returns-in-len1 : goal.returns-in-len1
returns-in-len1 c = grind (arith, common_steps) steps 2000000
