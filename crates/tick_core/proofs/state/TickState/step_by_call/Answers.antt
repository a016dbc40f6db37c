use Rattle.std.proofs.Common.{arith}
use Rattle.std.proofs.lemmas.Grind.{common_steps}
use Rattle.tick_core.proofs.StateKept.{configuration, room_left}
use Rattle.tick_core.proofs.state.TickState.step_by_call.Goals as goal

pub present_value-value-requires-clause-configuration : goal.present_value-value-requires-clause-configuration
present_value-value-requires-clause-configuration g c = configuration _ c.self.invariant.0

pub returns-clause-within : goal.returns-clause-within
returns-clause-within g c =
    room_left _ _ _ c.args.thread c.args.worker c.self.view_is c.self.invariant.0 c.requires.leads.next.leads c.advance-next.ensures.step

pub present_value-value-requires-clause-standing : goal.present_value-value-requires-clause-standing
present_value-value-requires-clause-standing g c = grind (arith, common_steps) steps 2000000
