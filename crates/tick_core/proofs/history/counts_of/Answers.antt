use Rattle.std.proofs.Common.{arith}
use Rattle.std.proofs.lemmas.Grind.{common_steps, elements}
use Rattle.tick_core.proofs.history.counts_of.Goals as goal

pub returns : goal.returns
returns c = grind (arith, elements) steps 2000000

pub loop-entry-preserved : goal.loop-entry-preserved
loop-entry-preserved c = grind (arith, common_steps) steps 2000000
