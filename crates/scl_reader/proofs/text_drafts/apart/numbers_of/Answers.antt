use Rattle.scl_reader.proofs.AllApart.{numbers_step}
use Rattle.std.proofs.Common.{arith, rules}
use Rattle.std.proofs.lemmas.Grind.{common_steps}
use Rattle.scl_reader.proofs.text_drafts.apart.numbers_of.Goals as goal

pub loop-at-preserved : goal.loop-at-preserved
loop-at-preserved c = search (rules, numbers_step)

pub returns : goal.returns
returns c = grind (arith, common_steps) steps 2000000
