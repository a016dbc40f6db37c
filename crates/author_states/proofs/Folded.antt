-- Passes that make of each state another one keep own paths: those of constants, during actions, counts and terminations.
use Rattle.std.proofs.Common.{◌≡◌, ℕ, suc, ◌+◌, ◌==◌, Bool, true, false, Option, Some, None}
use Rattle.std.proofs.Common.{List, [], ◌∷◌, ◌++◌, map, length, codes, refl, ap, ◌∙◌, append-nil}
use Rattle.sc_values.specs.declared.expression.Expr.{Expr}
use Rattle.core_charts.specs.declared.region.TransitionKind.TheVariants as kind
use Rattle.sc_text.specs.MadeNames.{numbered}
use Rattle.extended_charts.specs.declared.extended.During.{During}
use Rattle.extended_charts.specs.declared.extended.ExtendedRegion.{ExtendedRegion}
use Rattle.extended_charts.specs.declared.extended.ExtendedState.{ExtendedState}
use Rattle.extended_charts.specs.declared.extended.ExtendedRegion.TheOpen.{ExtendedRegion-F, ExtendedState-F}
use Rattle.extended_charts.specs.declared.extended.ExtendedRegion.TheViews.{roll-ExtendedRegion, roll-ExtendedState}
use Rattle.extended_charts.specs.declared.extended.ExtendedRegion.TheFolds.{fold-ExtendedRegion, fold-ExtendedState, fold-roll-ExtendedRegion}
use Rattle.extended_charts.specs.declared.extended.ExtendedRegion.TheFolds.{fold-roll-ExtendedState}
use Rattle.extended_charts.specs.declared.reading.Reading.{Reading}
use Rattle.extended_charts.specs.declared.reading.Reading.TheVariants as reading
use Rattle.chart_reduction.specs.Clocks.{timed_by}
use Rattle.extended_charts.specs.Making.{always, passing, region}
use Rattle.chart_reduction.specs.Constants as constants
use Rattle.chart_reduction.specs.Counts as counts
use Rattle.extended_charts.specs.Durings as durings
use Rattle.extended_charts.specs.Holds as holds
use Rattle.sc_text.proofs.EachItem.{Each}
use Rattle.author_states.specs.Own.{among, own_in_region, own_in_state}
use Rattle.core_charts.specs.Paths.{beside}
use Rattle.author_states.proofs.Made.{made_silent, one_silent, passing_silent, silent_region}
use Rattle.author_states.proofs.Walking.{each_region, SameRegion, SameState, SameRegions, Silent, mapped_regions, mapped_states, region_parts}
use Rattle.author_states.proofs.Walking.{region_same, silent_append, state_parts, state_same}

-- ---- what makes of a state whose regions are the same another one that is

abbrev Step : Type 0
Step = ExtendedState-F ExtendedRegion ExtendedState → ExtendedState

abbrev Keeps : Step → Type 0
Keeps step = (s : ExtendedState-F ExtendedRegion ExtendedState) (inner : List ExtendedRegion) → SameRegions inner s.regions
    → SameState (step (record s { regions = inner })) (roll-ExtendedState s)

module _ (step : Step) (keeps : Keeps step) where
  abbrev made_region : ExtendedRegion → ExtendedRegion
  made_region = fold-ExtendedRegion ExtendedRegion ExtendedState roll-ExtendedRegion step

  abbrev made_state_of : ExtendedState → ExtendedState
  made_state_of = fold-ExtendedState ExtendedRegion ExtendedState roll-ExtendedRegion step

  region_kept : (r : ExtendedRegion-F ExtendedRegion ExtendedState) → Each (λ s. SameState (made_state_of s) s) r.states
      → SameRegion (made_region (roll-ExtendedRegion r)) (roll-ExtendedRegion r)
  region_kept r h around =
      ap (λ t. own_in_region t around) (fold-roll-ExtendedRegion ExtendedRegion ExtendedState roll-ExtendedRegion step r)
      ∙ region_same (record { name = r.name; states = map made_state_of r.states }) r refl (mapped_states made_state_of r.states h) around

  state_kept : (s : ExtendedState-F ExtendedRegion ExtendedState) → Each (λ r. SameRegion (made_region r) r) s.regions
      → SameState (made_state_of (roll-ExtendedState s)) (roll-ExtendedState s)
  state_kept s h around before =
      ap (λ t. own_in_state t around before) (fold-roll-ExtendedState ExtendedRegion ExtendedState roll-ExtendedRegion step s)
      ∙ keeps s (map made_region s.regions) (mapped_regions made_region s.regions h) around before

  kept : (r : ExtendedRegion) → SameRegion (made_region r) r
  kept = each_region (λ r. SameRegion (made_region r) r) (λ s. SameState (made_state_of s) s)
      (record { of_region = region_kept; of_state = state_kept })

  all_kept : (regions : List ExtendedRegion) → Each (λ r. SameRegion (made_region r) r) regions
  all_kept [] = tt
  all_kept (r ∷ regions) = (kept r, all_kept regions)

  pub regions_kept : (regions : List ExtendedRegion) → SameRegions (map made_region regions) regions
  regions_kept regions = mapped_regions made_region regions (all_kept regions)

-- ---- constants, and counts

pub constants_kept : (r : Reading) (regions : List ExtendedRegion) → SameRegions (map (constants.valued_region r) regions) regions
constants_kept r = regions_kept (constants.state_step r) (λ s inner same.
    state_same (record s {
      entry = map (constants.valued_effect r) s.entry;
      exit = map (constants.valued_effect r) s.exit;
      during = map (constants.valued_during r) s.during;
      regions = inner;
      transitions = map (constants.valued_transition r) s.transitions;
    }) s refl refl same)

pub counts_kept : (first n : ℕ) (regions : List ExtendedRegion) → SameRegions (map (counts.counted_region first n) regions) regions
counts_kept first n = regions_kept (counts.state_step first n) (λ s inner same.
    state_same (record s {
      entry = counts.tellings first n s.transitions ++ s.entry;
      during = [];
      regions = inner;
      transitions = map (timed_by (reading.Counted first n)) s.transitions;
    }) s refl refl same)

-- ---- during actions

pub steps_silent : (place : ℕ) (ds : List During) → Silent (durings.steps place ds)
steps_silent place [] = λ around before. refl
steps_silent place (d ∷ ds) =
    one_silent (durings.step place d) (durings.steps (suc place) ds)
    (made_silent (numbered (codes "step__") place) (place == 0) (durings.ways_on d.trigger d.effects (suc place))) (steps_silent (suc place) ds)

during_silent : (wait : ℕ) (first all : List During) → Silent (durings.during_states wait first all)
during_silent wait first all =
    silent_append ((durings.steps 0 first ++ passing false wait [] (suc wait) ∷ []) ++ durings.steps (suc wait) all)
    (passing false (suc wait + length all) [] (suc wait) ∷ [])
    (silent_append (durings.steps 0 first ++ passing false wait [] (suc wait) ∷ []) (durings.steps (suc wait) all)
    (silent_append (durings.steps 0 first) (passing false wait [] (suc wait) ∷ []) (steps_silent 0 first) (passing_silent false wait [] (suc wait)))
    (steps_silent (suc wait) all))
    (passing_silent false (suc wait + length all) [] (suc wait))

with_during : (ds : List During) (inner regions : List ExtendedRegion) → SameRegions inner regions
    → SameRegions (durings.with_region ds inner) regions
with_during [] inner regions same = same
with_during (d ∷ ds) inner regions same = λ around.
    let all : List During = d ∷ ds in
    let first : List During = durings.immediate_ones all in
    silent_region (codes "during__1") (durings.during_states (length first) first all) inner (during_silent (length first) first all) around
    ∙ same around

pub durings_kept : (regions : List ExtendedRegion) → SameRegions (map durings.acting_region regions) regions
durings_kept = regions_kept durings.state_step (λ s inner same.
    state_same (record s {
      during = [];
      regions = durings.with_region s.during inner;
      transitions = durings.tested_behind s.during s.transitions;
    }) s refl refl (with_during s.during inner s.regions same))

-- ---- terminations with triggers

pub ended_silent : Silent (holds.ended ∷ [])
ended_silent around before =
    append-nil (own_in_state holds.ended around before)
    ∙ state_parts (record {
      name = codes "end__1";
      is_own = false;
      is_initial = false;
      is_final = true;
      entry = [];
      exit = [];
      during = [];
      regions = [];
      transitions = [];
    }) around before

body_own : (inner : List ExtendedRegion) (trigger : Expr) (around before : List ℕ)
    → among (map own_in_state (holds.body inner ∷ holds.hold trigger ∷ holds.ended ∷ [])) around before ≡ beside (map own_in_region inner) around
body_own inner trigger around before =
    ap (λ ps. own_in_state (holds.body inner) around before ++ ps)
    (one_silent (holds.hold trigger) (holds.ended ∷ []) (made_silent (codes "hold__1") false (holds.tested true trigger ∷ holds.tested false trigger ∷ [])) ended_silent around before)
    ∙ append-nil (own_in_state (holds.body inner) around before)
    ∙ state_parts (record {
      name = codes "body__1";
      is_own = false;
      is_initial = true;
      is_final = false;
      entry = [];
      exit = [];
      during = [];
      regions = inner;
      transitions = record (always false [] 1) { kind = kind.Join } ∷ [];
    }) around before

held_same : (condition : Option Expr) (inner regions : List ExtendedRegion) → SameRegions inner regions
    → SameRegions (holds.held condition inner) regions
held_same None inner regions same = same
held_same (Some trigger) inner regions same = λ around.
    let states : List ExtendedState = holds.body inner ∷ holds.hold trigger ∷ holds.ended ∷ [] in
    append-nil (own_in_region (region (codes "body__1") states) around)
    ∙ region_parts (record { name = codes "body__1"; states = states }) around
    ∙ body_own inner trigger around ((around ++ codes "body__1") ++ codes ".")
    ∙ same around

pub holds_kept : (regions : List ExtendedRegion) → SameRegions (map holds.held_region regions) regions
holds_kept = regions_kept holds.state_step (λ s inner same.
    state_same (record s {
      during = [];
      regions = holds.held (holds.condition s.transitions) inner;
      transitions = map holds.untested s.transitions;
    }) s refl refl (held_same (holds.condition s.transitions) inner s.regions same))
