-- What states whose regions make the during actions are, by their parts.
use Rattle.std.proofs.Common.{◌≡◌, [], map}
use Rattle.extended_charts.specs.declared.extended.ExtendedRegion.{ExtendedRegion}
use Rattle.extended_charts.specs.declared.extended.ExtendedState.{ExtendedState}
use Rattle.extended_charts.specs.declared.extended.ExtendedRegion.TheViews.{out-ExtendedState, roll-ExtendedRegion, roll-ExtendedState}
use Rattle.extended_charts.specs.declared.extended.ExtendedRegion.TheFolds.{fold_out-ExtendedState}
use Rattle.extended_charts.specs.Durings.{with_region, tested_behind, state_step, acting_region, acting_state}

pub state_acts : (s : ExtendedState) → acting_state s
    ≡ roll-ExtendedState (record {
      name = (out-ExtendedState s).name;
      is_own = (out-ExtendedState s).is_own;
      is_initial = (out-ExtendedState s).is_initial;
      is_final = (out-ExtendedState s).is_final;
      entry = (out-ExtendedState s).entry;
      exit = (out-ExtendedState s).exit;
      during = [];
      regions = with_region (out-ExtendedState s).during (map acting_region (out-ExtendedState s).regions);
      transitions = tested_behind (out-ExtendedState s).during (out-ExtendedState s).transitions;
    })
state_acts s = fold_out-ExtendedState ExtendedRegion ExtendedState roll-ExtendedRegion state_step s
