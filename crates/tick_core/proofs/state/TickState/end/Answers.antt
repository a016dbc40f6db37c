use Rattle.std.proofs.Common.{ap, refl}
use Rattle.tick_core.proofs.StateKept.{finished}
use Rattle.tick_core.proofs.state.TickState.end.Goals as goal

pub returns-clause-rests : goal.returns-clause-rests
returns-clause-rests c = (finished _ _ _ _ c.self.view_is c.self.invariant.0 c.requires (ap (λ s. s.present) c.self.view_is) refl).rests

pub returns-clause-tick : goal.returns-clause-tick
returns-clause-tick c = (finished _ _ _ _ c.self.view_is c.self.invariant.0 c.requires (ap (λ s. s.present) c.self.view_is) refl).tick
