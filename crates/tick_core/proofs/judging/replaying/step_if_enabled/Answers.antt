use Rattle.std.proofs.Common.{arith}
use Rattle.std.proofs.lemmas.Grind.{common_steps}
use Rattle.tick_core.proofs.judging.replaying.step_if_enabled.Goals as goal

pub present_value-value-requires-clause-standing : goal.present_value-value-requires-clause-standing
present_value-value-requires-clause-standing c = grind (arith, common_steps) steps 2000000
