-- Of each state and each transition of a reduced chart, in the order of its text, the number of the author's, if it is one
-- of his: both are numbered from 0 in the order of the text, where a state's own transitions come before those in it.
use Rattle.std.specs.Prelude.{ℕ, suc, Bool, true, false, Option, Some, None, List, [], ◌∷◌, ◌++◌, map, if◌then◌else◌}
use Rattle.core_charts.specs.declared.region.Effect.{Effect}
use Rattle.core_charts.specs.Elements.{row}
use Rattle.chart_reduction.specs.declared.rows.AuthorRows.{AuthorRows}
use Rattle.extended_charts.specs.declared.extended.ExtendedRegion.{ExtendedRegion}
use Rattle.extended_charts.specs.declared.extended.ExtendedState.{ExtendedState}
use Rattle.extended_charts.specs.declared.extended.ExtendedRegion.TheOpen.{ExtendedRegion-F, ExtendedState-F}
use Rattle.extended_charts.specs.declared.extended.ExtendedRegion.TheFolds.{fold-ExtendedRegion, fold-ExtendedState}
use Rattle.extended_charts.specs.Making.{has_some}

-- ---- whether each is the author's

abbrev pub Marks : Type 0
Marks = List Bool

-- before a state with entry actions stands another
abbrev pub before : List Effect → Marks
before entry = if has_some entry then false ∷ [] else []

abbrev pub region_marks : ExtendedRegion-F Marks Marks → Marks
region_marks r = row r.states

abbrev pub state_marks : ExtendedState-F Marks Marks → Marks
state_marks s = before s.entry ++ s.is_own ∷ row s.regions

abbrev pub transition_marks : ExtendedState-F Marks Marks → Marks
transition_marks s = before s.entry ++ map (λ t. s.is_own) s.transitions ++ row s.regions

abbrev pub states_in_region : ExtendedRegion → Marks
states_in_region = fold-ExtendedRegion Marks Marks region_marks state_marks

abbrev pub states_in_state : ExtendedState → Marks
states_in_state = fold-ExtendedState Marks Marks region_marks state_marks

abbrev pub transitions_in_region : ExtendedRegion → Marks
transitions_in_region = fold-ExtendedRegion Marks Marks region_marks transition_marks

abbrev pub transitions_in_state : ExtendedState → Marks
transitions_in_state = fold-ExtendedState Marks Marks region_marks transition_marks

-- ---- their numbers

abbrev pub numbers : (next : ℕ) → Marks → List (Option ℕ)
numbers n [] = []
numbers n (true ∷ marks) = Some n ∷ numbers (suc n) marks
numbers n (false ∷ marks) = None ∷ numbers n marks

abbrev pub rows_of : List ExtendedRegion → AuthorRows
rows_of regions =
    record {
      states = numbers 0 (row (map states_in_region regions));
      transitions = numbers 0 (row (map transitions_in_region regions));
    }
