use Rattle.std.proofs.Common.{arith}
use Rattle.tick_core.proofs.Claiming.{few}
use Rattle.tick_core.proofs.state.TickState.commits.Goals as goal

pub overflow_cast-result : goal.overflow_cast-result
overflow_cast-result c = omega (arith, few _ c.self.invariant.0, c.self.inside.history.ok.0, c.len.ensures)
