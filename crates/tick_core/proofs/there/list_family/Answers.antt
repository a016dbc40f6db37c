use Rattle.std.proofs.Common.{arith}
use Rattle.std.proofs.lemmas.Grind.{common_steps}
use Rattle.tick_core.proofs.there.list_family.Goals as goal

pub returns-clause-within : goal.returns-clause-within
returns-clause-within c = grind (arith, common_steps) steps 2000000

pub returns-clause-places : goal.returns-clause-places
returns-clause-places c = grind (arith, common_steps) steps 2000000
