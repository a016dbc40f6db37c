-- A chart as a table. States are numbered from 0 in the order of the text. Regions are numbered from 1, each before
-- what lies inside it and what lies inside its initial state before what lies inside its other states; 0 stands for
-- the chart, which counts as a superstate that no region holds.
use Rattle.std.specs.Prelude.{ℕ, zero, suc, ◌+◌, Bool, true, false, List, [], ◌∷◌, ◌++◌, map, slice_get, unwrap_or, if◌then◌else◌}
use Rattle.sc_graph.specs.declared.program.Variable.{Variable}
use Rattle.core_charts.specs.declared.region.Transition.{Transition}
use Rattle.core_charts.specs.declared.region.Region.{Region}
use Rattle.core_charts.specs.declared.region.Region.TheOpen.{Region-F, State-F}
use Rattle.core_charts.specs.declared.region.Region.TheFolds.{fold-Region, fold-State}
use Rattle.core_charts.specs.declared.region.State.{State}
use Rattle.chart_machine.specs.declared.standing.Move.{Move}
use Rattle.chart_machine.specs.declared.standing.Standing.TheVariants as standing
use Rattle.chart_machine.specs.declared.table.StateRow.{StateRow}
use Rattle.chart_machine.specs.declared.table.RegionRow.{RegionRow}
use Rattle.chart_machine.specs.declared.table.Table.{Table}
use Rattle.chart_machine.specs.declared.table.TablePosition.{TablePosition}
use Rattle.chart_machine.specs.declared.table.SubtreeRows.{SubtreeRows}
use Rattle.core_charts.specs.Chart.{Chart}
use Rattle.core_charts.specs.Tests.{at_once, strong_aborts, first_closing_tests}

-- a state, or a region, with all that is in it: how many states and regions it has, and what it gives where it stands
pub record Subtree : Type 0 where
  pub is_initial : Bool
  pub states : ℕ
  pub regions : ℕ
  pub parts : TablePosition → SubtreeRows

abbrev pub states_in : List Subtree → ℕ
states_in [] = 0
states_in (p ∷ pieces) = p.states + states_in pieces

abbrev pub regions_in : List Subtree → ℕ
regions_in [] = 0
regions_in (p ∷ pieces) = p.regions + regions_in pieces

abbrev pub nothing : SubtreeRows
nothing = record { states = []; regions = []; entered = [] }

abbrev pub both : SubtreeRows → SubtreeRows → SubtreeRows
both a b = record { states = a.states ++ b.states; regions = a.regions ++ b.regions; entered = a.entered ++ b.entered }

-- where the next region of the superstate stands
abbrev pub behind : Subtree → TablePosition → TablePosition
behind p at = record at { state = at.state + p.states; region = at.region + p.regions }

-- the regions of a superstate, side by side
abbrev pub side_by_side : List Subtree → TablePosition → SubtreeRows
side_by_side [] at = nothing
side_by_side (p ∷ regions) at = both (p.parts at) (side_by_side regions (behind p at))

-- their numbers
abbrev pub region_numbers : List Subtree → ℕ → List ℕ
region_numbers [] n = []
region_numbers (p ∷ regions) n = n ∷ region_numbers regions (n + p.regions)

-- what is inside a superstate of this position
abbrev pub within : TablePosition → TablePosition
within at = record at { state = suc at.state; around = at.state ∷ at.around }

-- what entering a superstate makes of the region that holds it: strong aborts first, where some are immediate
abbrev pub come_to : ℕ → ℕ → List Transition → List Transition → List Move → List Move
come_to r s [] closing opened = record { region = r; standing = standing.Within s closing } ∷ opened
come_to r s (t ∷ strong) closing opened = record { region = r; standing = standing.Entering s (t ∷ strong) } ∷ []

abbrev pub entered_superstate : TablePosition → List Transition → List Move → List Move
entered_superstate at transitions opened =
    come_to at.holder at.state (at_once (strong_aborts transitions)) (first_closing_tests transitions) opened

abbrev pub is_superstate : List Subtree → Bool
is_superstate [] = false
is_superstate (p ∷ regions) = true

-- what entering a state makes of regions, by whether it is final and whether it is a superstate: a final one ends its
-- region, a simple one tests its immediate transitions
abbrev pub entered_state : Bool → Bool → TablePosition → List Transition → List Move → List Move
entered_state true super at transitions opened = record { region = at.holder; standing = standing.Ended } ∷ []
entered_state false false at transitions opened =
    record { region = at.holder; standing = standing.Trying at.state (at_once transitions) } ∷ []
entered_state false true at transitions opened = entered_superstate at transitions opened

abbrev pub state_row : State-F Subtree Subtree → TablePosition → List Move → StateRow
state_row s at opened =
    record {
      holder = at.holder;
      regions = region_numbers s.regions at.region;
      transitions = s.transitions;
      entered = entered_state s.is_final (is_superstate s.regions) at s.transitions opened;
      opened = opened;
    }

-- a state, over what is inside it
abbrev pub state_over : State-F Subtree Subtree → TablePosition → SubtreeRows → SubtreeRows
state_over s at inside =
    record {
      states = state_row s at inside.entered ∷ inside.states;
      regions = inside.regions;
      entered = entered_state s.is_final (is_superstate s.regions) at s.transitions inside.entered;
    }

abbrev pub state_subtree : State-F Subtree Subtree → Subtree
state_subtree s =
    record {
      is_initial = s.is_initial;
      states = suc (states_in s.regions);
      regions = regions_in s.regions;
      parts = λ at. state_over s at (side_by_side s.regions (within at));
    }

-- What the states of a region give. The regions inside its initial state have the first numbers, those inside the others
-- come behind.
pub record StatesRows : Type 0 where
  pub states : List StateRow
  pub first : List RegionRow
  pub others : List RegionRow
  pub entered : List Move

abbrev pub followed_by : StatesRows → StatesRows → StatesRows
followed_by a b = record {
  states = a.states ++ b.states;
  first = a.first ++ b.first;
  others = a.others ++ b.others;
  entered = a.entered ++ b.entered;
}

-- a position with this number for the next region
abbrev pub with_region : ℕ → TablePosition → TablePosition
with_region n at = record at { region = n }

abbrev pub past_states : ℕ → TablePosition → TablePosition
past_states n at = record at { state = at.state + n }

-- what one state of a region gives: the regions inside the initial one have the numbers from the position's on, those
-- inside another one the numbers from next on
abbrev pub rows_of_state_at : Bool → (TablePosition → SubtreeRows) → ℕ → TablePosition → StatesRows
rows_of_state_at true parts next at =
    record { states = (parts at).states; first = (parts at).regions; others = []; entered = (parts at).entered }
rows_of_state_at false parts next at =
    record {
      states = (parts (with_region next at)).states;
      first = [];
      others = (parts (with_region next at)).regions;
      entered = [];
    }

abbrev pub alone : Subtree → ℕ → TablePosition → StatesRows
alone p = rows_of_state_at p.is_initial p.parts

abbrev pub next_behind : Subtree → ℕ → ℕ
next_behind p next = if p.is_initial then next else next + p.regions

-- the states of a region in the order of the text
abbrev pub in_region : List Subtree → ℕ → TablePosition → StatesRows
in_region [] next at = record { states = []; first = []; others = []; entered = [] }
in_region (p ∷ states) next at = followed_by (alone p next at)
    (in_region states (next_behind p next) (past_states p.states at))

-- the numbers of the states
abbrev pub state_numbers : List Subtree → ℕ → List ℕ
state_numbers [] n = []
state_numbers (p ∷ states) n = n ∷ state_numbers states (n + p.states)

-- how many regions are inside the initial states
abbrev pub regions_in_initial : List Subtree → ℕ
regions_in_initial [] = 0
regions_in_initial (p ∷ states) = (if p.is_initial then p.regions else 0) + regions_in_initial states

-- inside the region that comes next at a position
abbrev pub inside_region : TablePosition → TablePosition
inside_region at = record at { region = suc at.region; holder = at.region }

abbrev pub region_over : List ℕ → TablePosition → StatesRows → SubtreeRows
region_over states at inner =
    record {
      states = inner.states;
      regions = record { around = at.around; states = states } ∷ (inner.first ++ inner.others);
      entered = inner.entered;
    }

abbrev pub region_subtree : Region-F Subtree Subtree → Subtree
region_subtree r =
    record {
      is_initial = false;
      states = states_in r.states;
      regions = suc (regions_in r.states);
      parts = λ at.
          region_over (state_numbers r.states at.state) at
          (in_region r.states (suc at.region + regions_in_initial r.states) (inside_region at));
    }

abbrev pub subtree_of_region : Region → Subtree
subtree_of_region = fold-Region Subtree Subtree region_subtree state_subtree

abbrev pub subtree_of_state : State → Subtree
subtree_of_state = fold-State Subtree Subtree region_subtree state_subtree

abbrev pub whole : TablePosition
whole = record { state = 0; region = 1; holder = 0; around = [] }

abbrev pub table_over : List Variable → SubtreeRows → Table
table_over variables parts = record {
  variables = variables;
  states = parts.states;
  regions = parts.regions;
  opened = parts.entered;
}

abbrev pub table_of : List Variable → List Region → Table
table_of variables regions = table_over variables (side_by_side (map subtree_of_region regions) whole)

abbrev pub table : Chart → Table
table c = table_of c.variables c.regions

-- a number without a state or region has an empty row
abbrev pub state_at : Table → ℕ → StateRow
state_at k s = unwrap_or (slice_get k.states s) (record {
  holder = 0;
  regions = [];
  transitions = [];
  entered = [];
  opened = [];
})

abbrev pub region_at : Table → ℕ → RegionRow
region_at k zero = record { around = []; states = [] }
region_at k (suc r) = unwrap_or (slice_get k.regions r) (record { around = []; states = [] })
