use Rattle.std.proofs.Common.{arith}
use Rattle.std.proofs.lemmas.Grind.{common_steps, elements}
use Rattle.abort_expansion.proofs.counting.regions_size.Goals as goal

pub returns-clause-few : goal.returns-clause-few
returns-clause-few c = grind (arith, elements) steps 2000000

pub loop-region-preserved : goal.loop-region-preserved
loop-region-preserved c = grind (arith, common_steps) steps 2000000

pub returns-clause-superstates : goal.returns-clause-superstates
returns-clause-superstates c = grind (arith, common_steps) steps 2000000

pub returns-clause-variables : goal.returns-clause-variables
returns-clause-variables c = grind (arith, common_steps) steps 2000000
