use Rattle.std.proofs.Common.{arith}
use Rattle.std.proofs.lemmas.Grind.{elements, common_steps}
use Rattle.least_or_cycle.proofs.cycles.cycle_along.Goals as goal

pub returns-in-Some : goal.returns-in-Some
returns-in-Some g c = grind (arith, elements) steps 2000000

pub loop-node-preserved : goal.loop-node-preserved
loop-node-preserved g c = grind (arith, elements) steps 2000000

pub returns : goal.returns
returns g c = grind (arith, elements) steps 2000000

pub closed-requires-clause-ranks : goal.closed-requires-clause-ranks
closed-requires-clause-ranks g c = grind (arith, common_steps) steps 2000000

pub closed-requires-clause-first : goal.closed-requires-clause-first
closed-requires-clause-first g c = grind (arith, common_steps) steps 2000000
