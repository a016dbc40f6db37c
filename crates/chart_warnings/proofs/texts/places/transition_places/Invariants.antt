use Rattle.std.proofs.Common.{◌≡◌, ◌++◌, drop, map}
use Rattle.chart_warnings.proofs.texts.places.transition_places.Given as goal

abbrev pub invariant-loop-transition : goal.invariant-loop-transition
invariant-loop-transition l = l.places ++ map (λ t. t.at) (drop l.transition-index l.transitions) ≡ map (λ t. t.at) l.transitions
