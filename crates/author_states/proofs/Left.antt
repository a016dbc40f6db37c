-- The pass of exit actions keeps own paths: what stands behind superstates is silent.
use Rattle.std.proofs.Common.{◌≡◌, ℕ, suc, ◌+◌, Bool, true, false, Option, None, List, [], ◌∷◌, ◌++◌, map, length, codes, refl, ap, ◌∙◌}
use Rattle.core_charts.specs.declared.region.Effect.{Effect}
use Rattle.core_charts.specs.declared.region.Transition.{Transition}
use Rattle.sc_text.specs.MadeNames.{numbered}
use Rattle.extended_charts.specs.declared.extended.ExtendedRegion.{ExtendedRegion}
use Rattle.extended_charts.specs.declared.extended.ExtendedState.{ExtendedState}
use Rattle.extended_charts.specs.declared.extended.ExtendedRegion.TheOpen.{ExtendedState-F}
use Rattle.extended_charts.specs.declared.extended.ExtendedRegion.TheViews.{roll-ExtendedRegion, roll-ExtendedState}
use Rattle.extended_charts.specs.declared.extended.ExtendedRegion.TheFolds.{fold-roll-ExtendedRegion, fold-roll-ExtendedState}
use Rattle.chart_reduction.specs.declared.entries.leaving.Leaving.{Leaving}
use Rattle.extended_charts.specs.Making.{always, has_some, one}
use Rattle.chart_reduction.specs.Exits.{LeftRegion, LeftState, all_behind, all_regions, all_states, behind, departures, left_behind, left_region}
use Rattle.chart_reduction.specs.Exits.{left_in}
use Rattle.chart_reduction.specs.Exits.{left_state, left_transitions, leavings_in, noted, notes, outer_regions, own_note, parting, region_step, state_step}
use Rattle.chart_reduction.specs.Exits.{way_out, ways_out, with_behind}
use Rattle.sc_text.proofs.EachItem.{Each}
use Rattle.author_states.specs.Own.{among, own_in_region, own_in_state}
use Rattle.author_states.proofs.Made.{made_silent, one_silent}
use Rattle.author_states.proofs.Walking.{Cases, each_region, SameRegion, SameState, SameRegions, SameStates, Silent, both_same, region_same}
use Rattle.author_states.proofs.Walking.{silent_append, silent_behind, state_same, walked_regions}

-- ---- behind a superstate

behind_silent : (place : ℕ) (transitions : List Transition) → Silent (behind place transitions ∷ [])
behind_silent place transitions = made_silent (numbered (codes "leave__") place) false transitions

way_silent : (place : ℕ) (leavings : List Leaving) (effects : List Effect) (target : ℕ) → Silent (way_out place leavings effects target)
way_silent place [] effects target = behind_silent place (always true effects target ∷ [])
way_silent place (l ∷ leavings) effects target =
    one_silent (behind place (departures l.variable 1 (suc place) l.exits)) (way_out (suc place) leavings effects target)
    (behind_silent place (departures l.variable 1 (suc place) l.exits)) (way_silent (suc place) leavings effects target)

ways_silent : (place : ℕ) (leavings : List Leaving) (own : List Effect) (transitions : List Transition)
    → Silent (ways_out place leavings own transitions)
ways_silent place leavings own [] = λ around before. refl
ways_silent place leavings own (t ∷ transitions) =
    let next : ℕ = place + suc (length leavings) in
    silent_append (way_out place leavings (own ++ t.effects) t.target) (ways_out next leavings own transitions)
    (way_silent place leavings (own ++ t.effects) t.target) (ways_silent next leavings own transitions)

left_silent : (place : ℕ) (leavings : List Leaving) (own : List Effect) (transitions : List Transition)
    → Silent (left_behind place leavings own transitions)
left_silent place [] own transitions = λ around before. refl
left_silent place (l ∷ leavings) own transitions = ways_silent place (l ∷ leavings) own transitions

-- ---- states and regions

abbrev RegionLeft : ExtendedRegion → Type 0
RegionLeft r = (own : Option ℕ) (x : ℕ) → SameRegion ((left_region r).made own x) r

record StateLeft (s : ExtendedState) : Type 0 where
  pub made : (own : Option ℕ) (number x place : ℕ) → SameState ((left_state s).made own number x place) s
  pub behind : (own : Option ℕ) (x place : ℕ) → Silent ((left_state s).behind own x place)

states_left : (states : List ExtendedState) → Each StateLeft states → (own : Option ℕ) (number x place : ℕ)
    → SameStates (all_states own number x place (map left_state states)) states
states_left [] h own number x place around before = refl
states_left (s ∷ states) h own number x place around before =
    let t : LeftState = left_state s in
    let n : ℕ = number + one (has_some t.exit) in
    let y : ℕ = x + t.inside in
    let p : ℕ = place + length (t.behind own x place) in
    both_same (own_in_state (t.made own number x place) around before)
    (among (map own_in_state (all_states own n y p (map left_state states))) around before) (own_in_state s around before)
    (among (map own_in_state states) around before) (h.0.made own number x place around before) (states_left states h.1 own n y p around before)

behind_left : (states : List ExtendedState) → Each StateLeft states → (own : Option ℕ) (x place : ℕ)
    → Silent (all_behind own x place (map left_state states))
behind_left [] h own x place = λ around before. refl
behind_left (s ∷ states) h own x place =
    let t : LeftState = left_state s in
    let y : ℕ = x + t.inside in
    let p : ℕ = place + length (t.behind own x place) in
    silent_append (t.behind own x place) (all_behind own y p (map left_state states)) (h.0.behind own x place) (behind_left states h.1 own y p)

with_left : (states : List ExtendedState) → Each StateLeft states → (own : Option ℕ) (x : ℕ)
    → SameStates (with_behind own x (map left_state states)) states
with_left states h own x around before =
    let left : List LeftState = map left_state states in
    silent_behind (all_states own 1 x (length left) left) (all_behind own x (length left) left) (behind_left states h own x (length left)) around before
    ∙ states_left states h own 1 x (length left) around before

regions_left : (regions : List ExtendedRegion) → Each RegionLeft regions → (x : ℕ) → SameRegions (all_regions x (map left_region regions)) regions
regions_left =
    walked_regions RegionLeft left_region notes (λ r x. r.made (own_note (x + r.inside) (has_some r.exits)) x)
    (λ r same x. same (own_note (x + (left_region r).inside) (has_some (left_region r).exits)) x)

state_made : (s : ExtendedState-F ExtendedRegion ExtendedState) → Each RegionLeft s.regions → (own : Option ℕ) (number x place : ℕ)
    → SameState ((left_state (roll-ExtendedState s)).made own number x place) (roll-ExtendedState s)
state_made s h own number x place around before =
    let left : List LeftRegion = map left_region s.regions in
    ap (λ (t : LeftState). own_in_state (t.made own number x place) around before) (fold-roll-ExtendedState LeftRegion LeftState region_step state_step s)
    ∙ state_same (record s {
      entry = noted own number s.exit ++ s.entry;
      exit = [];
      during = [];
      regions = all_regions x left;
      transitions = left_transitions place (left_in s.is_own (leavings_in x left)) (parting own s.exit) s.transitions;
    }) s refl refl (regions_left s.regions h x) around before

state_behind : (s : ExtendedState-F ExtendedRegion ExtendedState) (own : Option ℕ) (x place : ℕ)
    → Silent ((left_state (roll-ExtendedState s)).behind own x place)
state_behind s own x place around before =
    ap (λ (t : LeftState). among (map own_in_state (t.behind own x place)) around before)
    (fold-roll-ExtendedState LeftRegion LeftState region_step state_step s)
    ∙ left_silent place (left_in s.is_own (leavings_in x (map left_region s.regions))) (parting own s.exit) s.transitions around before

left : Cases RegionLeft StateLeft
left = record {
  of_region = λ r h own x around.
      ap (λ (t : LeftRegion). own_in_region (t.made own x) around) (fold-roll-ExtendedRegion LeftRegion LeftState region_step state_step r)
      ∙ region_same (record { name = r.name; states = with_behind own x (map left_state r.states) }) r refl (with_left r.states h own x) around;
  of_state = λ s h. record { made = state_made s h; behind = state_behind s };
}

-- ---- the chart's own regions

each_left : (regions : List ExtendedRegion) → Each RegionLeft regions
each_left [] = tt
each_left (r ∷ regions) = (each_region RegionLeft StateLeft left r, each_left regions)

outer_left : (regions : List ExtendedRegion) → Each RegionLeft regions → (x : ℕ) → SameRegions (outer_regions x (map left_region regions)) regions
outer_left = walked_regions RegionLeft left_region (λ r. r.inside) (λ r x. r.made None x) (λ r same. same None)

pub exits_kept : (x : ℕ) (regions : List ExtendedRegion) → SameRegions (outer_regions x (map left_region regions)) regions
exits_kept x regions = outer_left regions (each_left regions) x
