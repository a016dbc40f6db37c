-- The pass of histories keeps own paths: the state in which a region may begin is silent.
use Rattle.std.proofs.Common.{◌≡◌, ℕ, suc, ◌+◌, Bool, true, Option, Some, None, List, [], ◌∷◌, ◌++◌, map, length, codes, refl, ap, ◌∙◌}
use Rattle.sc_text.specs.MadeNames.{numbered}
use Rattle.chart_reduction.specs.declared.entries.histories.Past.{Past}
use Rattle.chart_reduction.specs.declared.entries.histories.EnclosingRegion.{EnclosingRegion}
use Rattle.extended_charts.specs.declared.extended.ExtendedRegion.{ExtendedRegion}
use Rattle.extended_charts.specs.declared.extended.ExtendedState.{ExtendedState}
use Rattle.extended_charts.specs.declared.extended.ExtendedRegion.TheViews.{roll-ExtendedRegion, roll-ExtendedState}
use Rattle.extended_charts.specs.declared.extended.ExtendedRegion.TheFolds.{fold-roll-ExtendedRegion, fold-roll-ExtendedState}
use Rattle.extended_charts.specs.Making.{always}
use Rattle.chart_reduction.specs.Histories.{PastRegion, PastState, all_regions, all_states, asking, begins, entering, history_of, initial_among, is_recalled}
use Rattle.chart_reduction.specs.Histories.{led, made_region, noted, own_past, past_own, past_region, past_state, recalled_among, region_step, resuming}
use Rattle.chart_reduction.specs.Histories.{resumptions, state_step}
use Rattle.sc_text.proofs.EachItem.{Each}
use Rattle.author_states.specs.Own.{among, own_in_region, own_in_state}
use Rattle.author_states.proofs.Made.{made_silent}
use Rattle.author_states.proofs.Walking.{Cases, each_region, SameRegion, SameState, SameRegions, SameStates, Silent, both_same, region_same}
use Rattle.author_states.proofs.Walking.{silent_behind, state_same, walked_regions}

resuming_silent : (own : Option Past) (states : List PastState) → Silent (resuming own states)
resuming_silent None states = λ around before. refl
resuming_silent (Some past) states =
    made_silent (numbered (codes "resume__") (length states)) true (resumptions past 0 states ++ always true [] (initial_among 0 states) ∷ [])

abbrev RegionPast : ExtendedRegion → Type 0
RegionPast r = (own : Option Past) (x : ℕ) → SameRegion ((past_region r).made own x) r

abbrev StatePast : ExtendedState → Type 0
StatePast s = (at : EnclosingRegion) (recalled : Bool) (place x : ℕ) → SameState ((past_state s).made at recalled place x) s

states_past : (states : List ExtendedState) → Each StatePast states → (at : EnclosingRegion) (recalled : List ℕ) (place x : ℕ)
    → SameStates (all_states at recalled place x (map past_state states)) states
states_past [] h at recalled place x around before = refl
states_past (s ∷ states) h at recalled place x around before =
    let t : PastState = past_state s in
    let here : Bool = is_recalled place recalled in
    let y : ℕ = x + length (t.kept here) in
    both_same (own_in_state (t.made at here place x) around before)
    (among (map own_in_state (all_states at recalled (suc place) y (map past_state states))) around before) (own_in_state s around before)
    (among (map own_in_state states) around before) (h.0 at here place x around before) (states_past states h.1 at recalled (suc place) y around before)

region_past : (states : List ExtendedState) → Each StatePast states → (own : Option Past) (recalled : List ℕ) (x : ℕ)
    → SameStates (made_region own recalled x (map past_state states)) states
region_past states h own recalled x around before =
    let past : List PastState = map past_state states in
    let at : EnclosingRegion = record { count = length past; asked = x; own = own } in
    let y : ℕ = x + length (asking recalled) in
    silent_behind (all_states at recalled 0 y past) (resuming own past) (resuming_silent own past) around before
    ∙ states_past states h at recalled 0 y around before

regions_past : (regions : List ExtendedRegion) → Each RegionPast regions → (history : Option ℕ) (x : ℕ)
    → SameRegions (all_regions history x (map past_region regions)) regions
regions_past regions h history =
    walked_regions RegionPast past_region (λ r. past_own history (length r.kept)) (λ r x. r.made (own_past history x) (past_own history x))
    (λ r same x. same (own_past history x) (past_own history x)) regions h

past : Cases RegionPast StatePast
past = record {
  of_region = λ r h own x around.
      let recalled : List ℕ = recalled_among (length (map past_state r.states)) (map past_state r.states) in
      ap (λ (t : PastRegion). own_in_region (t.made own x) around) (fold-roll-ExtendedRegion PastRegion PastState region_step state_step r)
      ∙ region_same (record { name = r.name; states = made_region own recalled x (map past_state r.states) }) r refl
      (region_past r.states h own recalled x) around;
  of_state = λ s h at recalled place x around before.
      ap (λ (t : PastState). own_in_state (t.made at recalled place x) around before)
      (fold-roll-ExtendedState PastRegion PastState region_step state_step s)
      ∙ state_same (record s {
        is_initial = begins at.own s.is_initial;
        entry = (noted at.own place ++ entering at.asked recalled) ++ s.entry;
        regions = all_regions (history_of at.asked recalled) x (map past_region s.regions);
        transitions = map (led at) s.transitions;
      }) s refl refl (regions_past s.regions h (history_of at.asked recalled) x) around before;
}

each_past : (regions : List ExtendedRegion) → Each RegionPast regions
each_past [] = tt
each_past (r ∷ regions) = (each_region RegionPast StatePast past r, each_past regions)

pub histories_kept : (x : ℕ) (regions : List ExtendedRegion) → SameRegions (all_regions None x (map past_region regions)) regions
histories_kept x regions = regions_past regions (each_past regions) None x
