use Rattle.std.proofs.Common.{ℕ, ◌≡◌, ◌<◌, Some, slice_get}
use Rattle.core_charts.specs.declared.region.Effect.{Effect}
use Rattle.core_charts.specs.Rules.{IsEffect}
use Rattle.core_charts.proofs.rules.Frame.are_effects.Given as goal

abbrev pub invariant-loop-effect : goal.invariant-loop-effect
invariant-loop-effect l = (i : ℕ) (e : Effect) → i < l.effect-index → slice_get l.effects i ≡ Some e → IsEffect l.self.variables.now e
