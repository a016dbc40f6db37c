use Rattle.std.proofs.Common.{subst}
use Rattle.tick_core.specs.State.{InTick}
use Rattle.tick_core.specs.Turns.{AreReady}
use Rattle.tick_core.proofs.LeadingThreads.{row_ready}
use Rattle.tick_core.proofs.state.TickState.ready.Goals as goal

pub returns : goal.returns
returns c =
    subst (λ (s : InTick). AreReady s c.args.priority c.row.result.now) c.self.view_is
    (row_ready _ c.self.invariant.0 c.self.inside.rows c.self.invariant.4 c.args.priority c.row.result.now c.row.ensures)
