-- What states become, by their parts.
use Rattle.std.proofs.Common.{◌≡◌, map}
use Rattle.core_charts.specs.declared.region.Region.{Region}
use Rattle.extended_charts.specs.declared.extended.ExtendedState.{ExtendedState}
use Rattle.extended_charts.specs.declared.extended.ExtendedRegion.TheViews.{out-ExtendedState}
use Rattle.extended_charts.specs.declared.extended.ExtendedRegion.TheFolds.{fold_out-ExtendedState}
use Rattle.chart_reduction.specs.Entry as entry
use Rattle.chart_reduction.specs.Entry.{Entered, entered, without_entry}

abbrev parts : ExtendedState → Entered
parts s =
    record {
      name = (out-ExtendedState s).name;
      is_initial = (out-ExtendedState s).is_initial;
      is_final = (out-ExtendedState s).is_final;
      entry = (out-ExtendedState s).entry;
      regions = map without_entry (out-ExtendedState s).regions;
      transitions = (out-ExtendedState s).transitions;
    }

pub state_entered : (s : ExtendedState) → entered s ≡ parts s
state_entered s = fold_out-ExtendedState Region Entered entry.region_step entry.state_step s
