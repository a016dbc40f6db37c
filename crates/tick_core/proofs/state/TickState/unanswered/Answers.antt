use Rattle.std.proofs.lemmas.Grind.{common_steps}
use Rattle.std.proofs.Common.{arith, rules}
use Rattle.tick_core.proofs.state.TickState.unanswered.Goals as goal

pub returns-then-is_over : goal.returns-then-is_over
returns-then-is_over c = grind (arith, common_steps) steps 2000000

pub returns-else-is_over : goal.returns-else-is_over
returns-else-is_over c = search rules
