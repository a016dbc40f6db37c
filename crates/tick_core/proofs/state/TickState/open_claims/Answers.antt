use Rattle.std.proofs.Common.{◌∙◌, ap}
use Rattle.tick_core.proofs.StateKept.{places_shown, fresh_shown}
use Rattle.tick_core.proofs.state.TickState.open_claims.Goals as goal

pub returns-clause-places : goal.returns-clause-places
returns-clause-places c =
    places_shown _ _ c.as_slice.result.now c.self.view_is c.self.invariant.0 (c.as_slice.ensures.value ∙ ap (λ s. s.claims) c.self.view_is)

pub returns-clause-fresh : goal.returns-clause-fresh
returns-clause-fresh c =
    fresh_shown _ _ c.as_slice.result.now c.self.view_is c.self.invariant.0 (c.as_slice.ensures.value ∙ ap (λ s. s.claims) c.self.view_is)
