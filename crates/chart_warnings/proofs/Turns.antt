-- The transitions of a state that are tested in the tick of entry, turn by turn.
use Rattle.std.proofs.Common.{ℕ, zero, suc, List, []}
use Rattle.core_charts.specs.declared.region.Transition.{Transition}
use Rattle.chart_warnings.specs.Warnings.{of_turn, tested_at_once}

-- those of this turn and of the later ones
abbrev pub from_turn : ℕ → List Transition → List Transition
from_turn zero transitions = tested_at_once transitions
from_turn (suc zero) transitions = of_turn 1 transitions
from_turn (suc (suc n)) transitions = []
