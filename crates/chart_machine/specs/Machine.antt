-- A chart as a machine of regions, its ticks, and its active states.
use Rattle.std.specs.Prelude.{ℕ, Bool, true, false, nat_eq, List, [], ◌∷◌, map}
use Rattle.std.specs.List.{list_all}
use Rattle.sc_values.specs.Operator.{initial_value}
use Rattle.sc_values.specs.Runs.{Machine}
use Rattle.sc_graph.specs.Tick.{Inputs, values_at_start}
use Rattle.core_charts.specs.declared.region.Transition.{Transition}
use Rattle.chart_machine.specs.declared.standing.Standing.{Standing}
use Rattle.chart_machine.specs.declared.standing.Standing.TheVariants as at
use Rattle.chart_machine.specs.declared.standing.Configuration.{Configuration}
use Rattle.chart_machine.specs.declared.table.Table.{Table}
use Rattle.core_charts.specs.Tests.{strong_aborts, closing_tests}
use Rattle.chart_machine.specs.Table.{state_at}
use Rattle.chart_machine.specs.Turns.{standing_of, is_enabled, ForkedApart}
use Rattle.chart_machine.specs.Steps.{step, moved, access_of}

-- region r is thread r
abbrev pub machine : Table → Machine
machine k =
    record {
      Configuration = Configuration;
      enabled = is_enabled k;
      step = step k;
      access = λ c r. access_of (standing_of c r);
      ForkedApart = ForkedApart k;
    }

-- what stands before the first tick: all variables `false` or 0, no region entered
abbrev pub initial : Table → Configuration
initial k =
    record {
      variables = map (λ x. initial_value x.kind) k.variables;
      regions = at.Outside ∷ map (λ r. at.Outside) k.regions;
    }

-- in a superstate at the start of a tick: strong aborts come first, where it has some
abbrev pub guarded_first : ℕ → List Transition → List Transition → Standing
guarded_first s [] closing = at.Within s closing
guarded_first s (t ∷ strong) closing = at.Guarding s (t ∷ strong)

-- a simple state tests all its transitions, a superstate all its aborts
abbrev pub woken : Table → Standing → Standing
woken k (at.Trying s tests) = at.Trying s (state_at k s).transitions
woken k (at.Within s tests) = guarded_first s (strong_aborts (state_at k s).transitions)
    (closing_tests (state_at k s).transitions)
woken k other = other

abbrev pub is_outside : Standing → Bool
is_outside at.Outside = true
is_outside other = false

abbrev pub regions_at_start : Table → Bool → List Standing → List Standing
regions_at_start k true regions = moved k.opened regions
regions_at_start k false regions = map (woken k) regions

-- the start of a tick: inputs get their values; in the first tick, when no region is entered yet, those of the chart are
abbrev pub start : Table → Inputs → Configuration → Configuration
start k inputs c =
    record {
      variables = values_at_start inputs k.variables c.variables;
      regions = regions_at_start k (list_all is_outside c.regions) c.regions;
    }

abbrev pub stands_in : Standing → ℕ → Bool
stands_in (at.Trying u tests) s = nat_eq u s
stands_in (at.Entering u tests) s = nat_eq u s
stands_in (at.Guarding u tests) s = nat_eq u s
stands_in (at.Within u tests) s = nat_eq u s
stands_in (at.Acting u effects target) s = nat_eq u s
stands_in other s = false

-- whether some region stands in state s
abbrev pub is_active : Table → Configuration → ℕ → Bool
is_active k c s = stands_in (standing_of c (state_at k s).holder) s
