-- The elements of a chart, of each sort numbered from 0: regions, states, transitions and effects, in the order of the
-- text. A state's own transitions come before those in it.
use Rattle.std.specs.Prelude.{ℕ, suc, ◌+◌, List, [], ◌∷◌, length}
use Rattle.core_charts.specs.declared.region.Effect.{Effect}
use Rattle.core_charts.specs.declared.region.Transition.{Transition}
use Rattle.core_charts.specs.declared.elements.element.Element.{Element}
use Rattle.core_charts.specs.declared.elements.element.Element.TheVariants as element
use Rattle.core_charts.specs.declared.elements.numbers.ElementNumbers.{ElementNumbers}

-- the numbers that come next behind a transition, and behind transitions
abbrev pub behind_transition : Transition → ElementNumbers → ElementNumbers
behind_transition t at = record at { transition = suc at.transition; effect = at.effect + length t.effects }

abbrev pub behind_transitions : List Transition → ElementNumbers → ElementNumbers
behind_transitions [] at = at
behind_transitions (t ∷ others) at = behind_transitions others (behind_transition t at)

-- within a state with these transitions
abbrev pub within_state : List Transition → ElementNumbers → ElementNumbers
within_state own at = behind_transitions own (record at { state = suc at.state })

-- within a region
abbrev pub within_region : ElementNumbers → ElementNumbers
within_region at = record at { region = suc at.region }

-- behind pieces side by side, of which each passes some numbers
abbrev pub behind_all : List (ElementNumbers → ElementNumbers) → ElementNumbers → ElementNumbers
behind_all [] at = at
behind_all (behind ∷ others) at = behind_all others (behind at)

abbrev pub first : ElementNumbers
first = record { region = 0; state = 0; transition = 0; effect = 0 }

-- effects, of which the first one has this number
abbrev pub effects : List Effect → ℕ → List Element
effects [] n = []
effects (e ∷ others) n = element.Effect n ∷ effects others (suc n)
