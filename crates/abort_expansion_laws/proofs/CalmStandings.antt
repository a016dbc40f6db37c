-- A calm standing: it has no effect ahead of it, and makes no test on entry.
use Rattle.std.proofs.Common.{◌≢◌, ℕ, List}
use Rattle.core_charts.specs.declared.region.Effect.{Effect}
use Rattle.core_charts.specs.declared.region.Transition.{Transition}
use Rattle.chart_machine.specs.declared.standing.Standing.{Standing}
use Rattle.chart_machine.specs.declared.standing.Standing.TheVariants as at
use Rattle.abort_expansion_laws.specs.Related.{IsCalm, calm_outside, calm_ended, calm_trying, calm_within, calm_guarding}

pub calm_acting : (x : Standing) → IsCalm x → (s target : ℕ) (effects : List Effect) → x ≢ at.Acting s effects target
calm_acting _ calm_outside s target effects e = absurd cc
calm_acting _ calm_ended s target effects e = absurd cc
calm_acting _ (calm_trying u tests) s target effects e = absurd cc
calm_acting _ (calm_within u tests) s target effects e = absurd cc
calm_acting _ (calm_guarding u tests) s target effects e = absurd cc

pub calm_entering : (x : Standing) → IsCalm x → (s : ℕ) (tests : List Transition) → x ≢ at.Entering s tests
calm_entering _ calm_outside s tests e = absurd cc
calm_entering _ calm_ended s tests e = absurd cc
calm_entering _ (calm_trying u others) s tests e = absurd cc
calm_entering _ (calm_within u others) s tests e = absurd cc
calm_entering _ (calm_guarding u others) s tests e = absurd cc
