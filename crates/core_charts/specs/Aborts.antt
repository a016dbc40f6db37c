-- Which lists of transitions, regions, states and charts have strong or weak aborts. A chart that has none is a core
-- chart as it stands.
use Rattle.std.specs.Prelude.{Bool, ◌||◌, List, map}
use Rattle.std.specs.List.{list_any}
use Rattle.core_charts.specs.declared.region.Transition.{Transition}
use Rattle.core_charts.specs.declared.region.Region.{Region}
use Rattle.core_charts.specs.declared.region.Region.TheOpen.{Region-F, State-F}
use Rattle.core_charts.specs.declared.region.Region.TheFolds.{fold-Region, fold-State}
use Rattle.core_charts.specs.declared.region.State.{State}
use Rattle.core_charts.specs.Chart.{Chart}
use Rattle.core_charts.specs.Tests.{is_strong, is_weak}

abbrev pub has_strong : List Transition → Bool
has_strong transitions = list_any (λ t. is_strong t.kind) transitions

abbrev pub has_weak : List Transition → Bool
has_weak transitions = list_any (λ t. is_weak t.kind) transitions

-- the transitions of a state
abbrev pub has_aborts : List Transition → Bool
has_aborts transitions = has_strong transitions || has_weak transitions

abbrev pub some_of : List Bool → Bool
some_of answers = list_any (λ answer. answer) answers

abbrev pub region_aborts : Region-F Bool Bool → Bool
region_aborts r = some_of r.states

abbrev pub state_aborts : State-F Bool Bool → Bool
state_aborts s = has_aborts s.transitions || some_of s.regions

-- a region or a state, with all that is in it
abbrev pub region_has_aborts : Region → Bool
region_has_aborts = fold-Region Bool Bool region_aborts state_aborts

abbrev pub state_has_aborts : State → Bool
state_has_aborts = fold-State Bool Bool region_aborts state_aborts

abbrev pub chart_has_aborts : Chart → Bool
chart_has_aborts c = some_of (map region_has_aborts c.regions)
