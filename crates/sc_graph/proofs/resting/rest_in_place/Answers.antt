use Rattle.std.proofs.lemmas.Grind.{common_steps, elements}
use Rattle.std.proofs.Common.{arith}
use Rattle.sc_graph.proofs.resting.rest_in_place.Goals as goal

pub returns-then-len-threads : goal.returns-then-len-threads
returns-then-len-threads c = grind (arith, common_steps) steps 2000000

pub returns-then-not-rests_at : goal.returns-then-not-rests_at
returns-then-not-rests_at c = grind (arith, common_steps) steps 2000000

pub returns : goal.returns
returns c = grind (arith, elements) steps 2000000
