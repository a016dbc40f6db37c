use Rattle.std.proofs.Common.{arith}
use Rattle.std.proofs.lemmas.Grind.{common_steps}
use Rattle.abort_expansion.proofs.regions.put_places.Goals as goal

pub loop-state-preserved : goal.loop-state-preserved
loop-state-preserved c = grind (arith, common_steps) steps 2000000

pub returns-clause-places : goal.returns-clause-places
returns-clause-places c = grind (arith, common_steps) steps 2000000

pub returns-clause-behind : goal.returns-clause-behind
returns-clause-behind c = grind (arith, common_steps) steps 2000000
