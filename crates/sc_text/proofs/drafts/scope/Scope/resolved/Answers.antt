use Rattle.std.proofs.lemmas.Grind.{common_steps}
use Rattle.std.proofs.Common.{arith}
use Rattle.sc_text.proofs.drafts.scope.Scope.resolved.Goals as goal

pub returns-then-not-branch : goal.returns-then-not-branch
returns-then-not-branch c = grind (arith, common_steps) steps 2000000

pub loop-operation-preserved : goal.loop-operation-preserved
loop-operation-preserved c = grind (arith, common_steps) steps 2000000

pub returns : goal.returns
returns c = grind (arith, common_steps) steps 2000000
