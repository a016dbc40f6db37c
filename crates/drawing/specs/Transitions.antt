-- The words of a transition of an extended chart in a drawing.
use Rattle.std.specs.Prelude.{ℕ, ◌-◌, nat_lt, if◌then◌else◌, List, [], codes}
use Rattle.core_charts.specs.declared.region.Transition.{Transition}
use Rattle.drawing.specs.declared.symbols.Symbol.{Symbol}
use Rattle.drawing.specs.Labels.{words_text}
use Rattle.drawing.specs.Triggers.{asked_text}

-- how the target with this number is entered: one behind so many states of the region is one of these, by its history
abbrev pub entering_text : (states target : ℕ) → List ℕ
entering_text states target = if nat_lt target states then [] else codes "  \\l     -> shallow history"

-- the place of the target
abbrev pub place_of : (states target : ℕ) → ℕ
place_of states target = if nat_lt target states then target else target - states

-- the transition with this number among those of its state, of a chart with so many counts, in a region of so many states
abbrev pub transition_text : List Symbol → (signals : List ℕ) → (counts states number : ℕ) → Transition → List ℕ
transition_text symbols signals counts states number t =
    words_text symbols signals number t (asked_text symbols counts t.trigger) (entering_text states t.target)
