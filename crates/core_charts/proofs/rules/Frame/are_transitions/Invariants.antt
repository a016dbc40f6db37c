use Rattle.std.proofs.Common.{ℕ, ◌≡◌, ◌<◌, Some, slice_get}
use Rattle.core_charts.specs.declared.region.Transition.{Transition}
use Rattle.core_charts.specs.Rules.{IsTransition}
use Rattle.core_charts.proofs.rules.Frame.are_transitions.Given as goal

abbrev pub invariant-loop-transition : goal.invariant-loop-transition
invariant-loop-transition l =
    (i : ℕ) (t : Transition) → i < l.transition-index → slice_get l.transitions i ≡ Some t →
    IsTransition l.self.features l.self.variables.now l.states l.is_superstate t
