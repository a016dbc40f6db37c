use Rattle.std.proofs.Common.{arith}
use Rattle.std.proofs.lemmas.Grind.{common_steps}
use Rattle.tick_core.proofs.starting.started.Goals as goal

pub start-requires-clause-values : goal.start-requires-clause-values
start-requires-clause-values c = grind (arith, common_steps) steps 2000000

pub start-requires-clause-given : goal.start-requires-clause-given
start-requires-clause-given c = grind (arith, common_steps) steps 2000000
