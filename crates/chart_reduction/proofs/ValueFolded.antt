-- What states become, by their parts.
use Rattle.std.proofs.Common.{◌≡◌, ℕ, ◌+◌, [], ◌++◌, map, ap}
use Rattle.extended_charts.specs.declared.extended.ExtendedState.{ExtendedState}
use Rattle.extended_charts.specs.declared.reading.Reading.TheVariants as reading
use Rattle.extended_charts.specs.declared.extended.ExtendedRegion.TheViews.{out-ExtendedState, roll-ExtendedState}
use Rattle.extended_charts.specs.declared.extended.ExtendedRegion.TheFolds.{fold_out-ExtendedState}
use Rattle.chart_reduction.specs.Clocks as clocks
use Rattle.chart_reduction.specs.Clocks.{TimedRegion, TimedState, timed_state, timed_region, all_regions, ask_time, noting, timed_by}
use Rattle.extended_charts.specs.Making.{one}

pub state_timed : (s : ExtendedState) (now at : ℕ) → (timed_state s).made now at
    ≡ roll-ExtendedState (record {
      name = (out-ExtendedState s).name;
      is_own = (out-ExtendedState s).is_own;
      is_initial = (out-ExtendedState s).is_initial;
      is_final = (out-ExtendedState s).is_final;
      entry = noting (ask_time (out-ExtendedState s).transitions) now at ++ (out-ExtendedState s).entry;
      exit = (out-ExtendedState s).exit;
      during = [];
      regions =
          all_regions now (at + one (ask_time (out-ExtendedState s).transitions)) (map timed_region (out-ExtendedState s).regions);
      transitions = map (timed_by (reading.Elapsed now at)) (out-ExtendedState s).transitions;
    })
state_timed s now at = ap (λ t. t.made now at) (fold_out-ExtendedState TimedRegion TimedState clocks.region_step clocks.state_step s)
