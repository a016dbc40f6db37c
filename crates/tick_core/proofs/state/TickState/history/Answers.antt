use Rattle.std.proofs.Common.{◌∙◌, ap}
use Rattle.tick_core.proofs.StateKept.{shown}
use Rattle.tick_core.proofs.state.TickState.history.Goals as goal

pub returns-clause-by_priority : goal.returns-clause-by_priority
returns-clause-by_priority c =
    (shown _ _ c.as_slice.result.now c.self.view_is c.self.invariant.0 (c.as_slice.ensures.value ∙ ap (λ s. s.history) c.self.view_is)).by_priority

pub returns-clause-admissible : goal.returns-clause-admissible
returns-clause-admissible c =
    (shown _ _ c.as_slice.result.now c.self.view_is c.self.invariant.0 (c.as_slice.ensures.value ∙ ap (λ s. s.history) c.self.view_is)).admissible

pub returns-clause-within : goal.returns-clause-within
returns-clause-within c =
    (shown _ _ c.as_slice.result.now c.self.view_is c.self.invariant.0 (c.as_slice.ensures.value ∙ ap (λ s. s.history) c.self.view_is)).within
