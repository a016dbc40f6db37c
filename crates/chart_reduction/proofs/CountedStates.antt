-- What states are whose triggers read variables for counts, by their parts.
use Rattle.std.proofs.Common.{◌≡◌, ℕ, [], ◌++◌, map}
use Rattle.extended_charts.specs.declared.extended.ExtendedRegion.{ExtendedRegion}
use Rattle.extended_charts.specs.declared.extended.ExtendedState.{ExtendedState}
use Rattle.extended_charts.specs.declared.extended.ExtendedRegion.TheViews.{out-ExtendedState, roll-ExtendedRegion, roll-ExtendedState}
use Rattle.extended_charts.specs.declared.extended.ExtendedRegion.TheFolds.{fold_out-ExtendedState}
use Rattle.extended_charts.specs.declared.reading.Reading.TheVariants as reading
use Rattle.chart_reduction.specs.Clocks.{timed_by}
use Rattle.chart_reduction.specs.Counts.{tellings, state_step, counted_region, counted_state}

pub state_counted : (s : ExtendedState) (first n : ℕ) → counted_state first n s
    ≡ roll-ExtendedState (record {
      name = (out-ExtendedState s).name;
      is_own = (out-ExtendedState s).is_own;
      is_initial = (out-ExtendedState s).is_initial;
      is_final = (out-ExtendedState s).is_final;
      entry = tellings first n (out-ExtendedState s).transitions ++ (out-ExtendedState s).entry;
      exit = (out-ExtendedState s).exit;
      during = [];
      regions = map (counted_region first n) (out-ExtendedState s).regions;
      transitions = map (timed_by (reading.Counted first n)) (out-ExtendedState s).transitions;
    })
state_counted s first n = fold_out-ExtendedState ExtendedRegion ExtendedState roll-ExtendedRegion (state_step first n) s
