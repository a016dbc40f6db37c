use Rattle.std.proofs.Common.{ℕ, subst}
use Rattle.std.specs.Prelude.{IsSome}
use Rattle.sc_graph.specs.Control.{IsEnabled}
use Rattle.sc_graph.specs.Steps.{step}
use Rattle.sc_graph.specs.Tick.{IsConfiguration}
use Rattle.tick_core.proofs.StateKept.{configuration, enabled_defined}
use Rattle.tick_core.proofs.state.TickState.present.Goals as goal

pub returns-clause-configuration : goal.returns-clause-configuration
returns-clause-configuration c =
    subst (λ s. IsConfiguration s.image.program c.self.inside.present) c.self.view_is (configuration _ c.self.invariant.0)

pub returns-clause-defined : goal.returns-clause-defined
returns-clause-defined c =
    subst (λ s. (t : ℕ) → IsEnabled s.image.program c.self.inside.present t → IsSome (step s.image.program t c.self.inside.present)) c.self.view_is
    (enabled_defined _ c.self.invariant.0)
