-- What states whose terminations have no triggers are, by their parts.
use Rattle.std.proofs.Common.{◌≡◌, [], map}
use Rattle.extended_charts.specs.declared.extended.ExtendedRegion.{ExtendedRegion}
use Rattle.extended_charts.specs.declared.extended.ExtendedState.{ExtendedState}
use Rattle.extended_charts.specs.declared.extended.ExtendedRegion.TheViews.{out-ExtendedState, roll-ExtendedRegion, roll-ExtendedState}
use Rattle.extended_charts.specs.declared.extended.ExtendedRegion.TheFolds.{fold_out-ExtendedState}
use Rattle.extended_charts.specs.Holds.{untested, state_step, held_state, held_inside}

pub state_held : (s : ExtendedState) → held_state s
    ≡ roll-ExtendedState (record {
      name = (out-ExtendedState s).name;
      is_own = (out-ExtendedState s).is_own;
      is_initial = (out-ExtendedState s).is_initial;
      is_final = (out-ExtendedState s).is_final;
      entry = (out-ExtendedState s).entry;
      exit = (out-ExtendedState s).exit;
      during = [];
      regions = held_inside s;
      transitions = map untested (out-ExtendedState s).transitions;
    })
state_held s = fold_out-ExtendedState ExtendedRegion ExtendedState roll-ExtendedRegion state_step s
