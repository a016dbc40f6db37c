use Rattle.std.proofs.Common.{arith}
use Rattle.std.proofs.lemmas.Grind.{elements}
use Rattle.tick_core.proofs.state.ending.close_all.Goals as goal

pub loop-claim-preserved : goal.loop-claim-preserved
loop-claim-preserved c = grind (arith, elements) steps 2000000

pub returns-clause-length : goal.returns-clause-length
returns-clause-length c = grind (arith, elements) steps 2000000

pub returns-clause-none : goal.returns-clause-none
returns-clause-none c = grind (arith, elements) steps 2000000
