use Rattle.tick_core.proofs.StateKept.{configuration}
use Rattle.tick_core.proofs.state.TickState.evaluated.Goals as goal

pub present_value-value-requires-clause-configuration : goal.present_value-value-requires-clause-configuration
present_value-value-requires-clause-configuration c = configuration _ c.self.invariant.0
