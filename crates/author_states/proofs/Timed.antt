-- The pass of clocks keeps own paths.
use Rattle.std.proofs.Common.{◌≡◌, ℕ, ◌+◌, List, [], ◌∷◌, ◌++◌, map, refl, ap, ◌∙◌}
use Rattle.extended_charts.specs.declared.reading.Reading.TheVariants as reading
use Rattle.extended_charts.specs.declared.extended.ExtendedRegion.{ExtendedRegion}
use Rattle.extended_charts.specs.declared.extended.ExtendedState.{ExtendedState}
use Rattle.extended_charts.specs.declared.extended.ExtendedRegion.TheViews.{roll-ExtendedRegion, roll-ExtendedState}
use Rattle.extended_charts.specs.declared.extended.ExtendedRegion.TheFolds.{fold-roll-ExtendedRegion, fold-roll-ExtendedState}
use Rattle.chart_reduction.specs.Clocks.{TimedRegion, TimedState, all_regions, all_states, ask_time, noting, region_step, state_step}
use Rattle.chart_reduction.specs.Clocks.{timed_by, timed_region, timed_state}
use Rattle.extended_charts.specs.Making.{one}
use Rattle.sc_text.proofs.EachItem.{Each}
use Rattle.author_states.specs.Own.{own_in_region, own_in_state}
use Rattle.author_states.proofs.Walking.{Cases, each_region, SameRegion, SameState, SameRegions, SameStates, region_same, state_same}
use Rattle.author_states.proofs.Walking.{walked_regions, walked_states}

abbrev RegionTimed : ExtendedRegion → Type 0
RegionTimed r = (now at : ℕ) → SameRegion ((timed_region r).made now at) r

abbrev StateTimed : ExtendedState → Type 0
StateTimed s = (now at : ℕ) → SameState ((timed_state s).made now at) s

regions_timed : (regions : List ExtendedRegion) → Each RegionTimed regions → (now at : ℕ)
    → SameRegions (all_regions now at (map timed_region regions)) regions
regions_timed regions h now =
    walked_regions RegionTimed timed_region (λ r. r.clocks) (λ r x. r.made now x) (λ r same at. same now at) regions h

states_timed : (states : List ExtendedState) → Each StateTimed states → (now at : ℕ)
    → SameStates (all_states now at (map timed_state states)) states
states_timed states h now = walked_states StateTimed timed_state (λ s. s.clocks) (λ s x. s.made now x) (λ s same at. same now at) states h

timed : Cases RegionTimed StateTimed
timed = record {
  of_region = λ r h now at around.
      ap (λ (t : TimedRegion). own_in_region (t.made now at) around) (fold-roll-ExtendedRegion TimedRegion TimedState region_step state_step r)
      ∙ region_same (record { name = r.name; states = all_states now at (map timed_state r.states) }) r refl (states_timed r.states h now at) around;
  of_state = λ s h now at around before.
      let inner : ℕ = at + one (ask_time s.transitions) in
      ap (λ (t : TimedState). own_in_state (t.made now at) around before) (fold-roll-ExtendedState TimedRegion TimedState region_step state_step s)
      ∙ state_same (record s {
        entry = noting (ask_time s.transitions) now at ++ s.entry;
        during = [];
        regions = all_regions now inner (map timed_region s.regions);
        transitions = map (timed_by (reading.Elapsed now at)) s.transitions;
      }) s refl refl (regions_timed s.regions h now inner) around before;
}

each_timed : (regions : List ExtendedRegion) → Each RegionTimed regions
each_timed [] = tt
each_timed (r ∷ regions) = (each_region RegionTimed StateTimed timed r, each_timed regions)

pub clocks_kept : (now at : ℕ) (regions : List ExtendedRegion) → SameRegions (all_regions now at (map timed_region regions)) regions
clocks_kept now at regions = regions_timed regions (each_timed regions) now at
