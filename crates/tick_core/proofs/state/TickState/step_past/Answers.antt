use Rattle.std.proofs.Common.{arith}
use Rattle.std.proofs.lemmas.Grind.{common_steps, elements}
use Rattle.tick_core.proofs.state.TickState.step_past.Goals as goal

pub step_alone-requires-clause-at : goal.step_alone-requires-clause-at
step_alone-requires-clause-at g c = grind (arith, common_steps) steps 2000000

pub step_alone-requires-in-Some-clause-own : goal.step_alone-requires-in-Some-clause-own
step_alone-requires-in-Some-clause-own g c = grind (arith, common_steps) steps 2000000

pub step_alone-requires-in-Some-clause-at : goal.step_alone-requires-in-Some-clause-at
step_alone-requires-in-Some-clause-at g c = grind (arith, elements) steps 2000000
