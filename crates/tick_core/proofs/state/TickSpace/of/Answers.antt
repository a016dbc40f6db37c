use Rattle.std.proofs.Common.{arith, rules}
use Rattle.std.proofs.lemmas.Grind.{elements, common_steps}
use Rattle.tick_core.proofs.state.TickSpace.of.Goals as goal

pub returns-in-Ok : goal.returns-in-Ok
returns-in-Ok c = grind (arith, elements) steps 2000000

pub returns-in-Err : goal.returns-in-Err
returns-in-Err c = grind (arith, elements) steps 2000000

pub fill-requires-clause-rows : goal.fill-requires-clause-rows
fill-requires-clause-rows c = grind (arith, common_steps) steps 2000000

pub fill-requires-clause-given : goal.fill-requires-clause-given
fill-requires-clause-given c = grind (arith, common_steps) steps 2000000

pub fill-requires-clause-forks : goal.fill-requires-clause-forks
fill-requires-clause-forks c = search rules
