use Rattle.std.proofs.lemmas.Grind.{common_steps}
use Rattle.std.proofs.Common.{arith}
use Rattle.sc_text.proofs.drafts.told.put_next.Goals as goal

pub returns-then-comes_before : goal.returns-then-comes_before
returns-then-comes_before c = grind (arith, common_steps) steps 2000000

pub returns-then-comes_before-2 : goal.returns-then-comes_before-2
returns-then-comes_before-2 c = grind (arith, common_steps) steps 2000000

pub returns-else-comes_before-2 : goal.returns-else-comes_before-2
returns-else-comes_before-2 c = grind (arith, common_steps) steps 2000000

pub returns-in_ok-push-in-None : goal.returns-in_ok-push-in-None
returns-in_ok-push-in-None c = grind (arith, common_steps) steps 2000000
