use Rattle.std.proofs.Common.{arith}
use Rattle.std.proofs.lemmas.Grind.{common_steps}
use Rattle.tick_core.proofs.there.list_children.Goals as goal

pub returns-in-Some-clause-counted : goal.returns-in-Some-clause-counted
returns-in-Some-clause-counted c = grind (arith, common_steps) steps 2000000

pub returns-in-None-clause-places : goal.returns-in-None-clause-places
returns-in-None-clause-places c = grind (arith, common_steps) steps 2000000

pub returns-in-Some-clause-listed : goal.returns-in-Some-clause-listed
returns-in-Some-clause-listed c = grind (arith, common_steps) steps 2000000
