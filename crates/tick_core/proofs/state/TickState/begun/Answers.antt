use Rattle.std.proofs.Common.{subst}
use Rattle.tick_core.specs.State.{BeginsTick}
use Rattle.tick_core.proofs.state.TickState.begun.Goals as goal

pub returns-clause-begins : goal.returns-clause-begins
returns-clause-begins c =
    subst (λ s. BeginsTick s.image.program c.self.inside.begun) c.self.view_is c.self.invariant.0.begins
