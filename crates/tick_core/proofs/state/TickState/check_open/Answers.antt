use Rattle.tick_core.proofs.Claiming.{may_commit_at}
use Rattle.tick_core.proofs.state.TickState.check_open.Goals as goal

pub returns-then-is_open-clause-is_open : goal.returns-then-is_open-clause-is_open
returns-then-is_open-clause-is_open c =
    may_commit_at _ _ _ c.args.claim.now c.self.view_is c.self.invariant.0 c.deref.ensures.value (c.is_open.ensures.0 c.if-is_open.true)
