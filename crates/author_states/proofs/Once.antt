-- Each own state is marked once, in its order, and so numbered.
use Rattle.std.proofs.Common.{◌≡◌, ℕ, suc, Bool, true, false, List, [], ◌∷◌, ◌++◌, map, length, codes, refl, ap, sym, ◌∙◌}
use Rattle.std.specs.Prelude.{if◌then◌else◌}
use Rattle.core_charts.specs.Elements.{row}
use Rattle.core_charts.specs.declared.region.Effect.{Effect}
use Rattle.extended_charts.specs.declared.extended.ExtendedChart.{ExtendedChart}
use Rattle.extended_charts.specs.declared.extended.ExtendedRegion.{ExtendedRegion}
use Rattle.extended_charts.specs.declared.extended.ExtendedState.{ExtendedState}
use Rattle.extended_charts.specs.declared.extended.ExtendedRegion.TheViews.{roll-ExtendedRegion, roll-ExtendedState}
use Rattle.extended_charts.specs.declared.extended.ExtendedRegion.TheFolds.{fold-roll-ExtendedRegion, fold-roll-ExtendedState}
use Rattle.chart_reduction.specs.Reduction.{with_entry}
use Rattle.chart_reduction.specs.Rows.{Marks, before, numbers, region_marks, rows_of, state_marks, states_in_region, states_in_state}
use Rattle.core_charts.specs.Paths.{Paths, beside}
use Rattle.sc_text.proofs.EachItem.{Each}
use Rattle.author_states.specs.Own.{among, numbers_from, own_in_region, own_in_state, own_paths, present}
use Rattle.author_states.proofs.Staying.{authors_stay}
use Rattle.author_states.proofs.Walking.{Cases, both_same, each_region, parted, region_parts, state_parts}

-- ---- marks

-- those of own states
abbrev own_marks : Marks → Marks
own_marks [] = []
own_marks (true ∷ marks) = true ∷ own_marks marks
own_marks (false ∷ marks) = own_marks marks

-- a mark for each
abbrev marked : {A : Type 0} → List A → Marks
marked [] = []
marked (x ∷ xs) = true ∷ marked xs

own_both : (xs ys : Marks) → own_marks (xs ++ ys) ≡ own_marks xs ++ own_marks ys
own_both [] ys = refl
own_both (true ∷ xs) ys = ap (λ m. true ∷ m) (own_both xs ys)
own_both (false ∷ xs) ys = own_both xs ys

marked_both : {A : Type 0} (xs ys : List A) → marked (xs ++ ys) ≡ marked xs ++ marked ys
marked_both [] ys = refl
marked_both (x ∷ xs) ys = ap (λ m. true ∷ m) (marked_both xs ys)

as_many : {A : Type 0} (xs : List A) → length (marked xs) ≡ length xs
as_many [] = refl
as_many (x ∷ xs) = ap suc (as_many xs)

numbered : (n : ℕ) (marks : Marks) → present (numbers n marks) ≡ numbers_from n (length (own_marks marks))
numbered n [] = refl
numbered n (true ∷ marks) = ap (λ ns. n ∷ ns) (numbered (suc n) marks)
numbered n (false ∷ marks) = numbered n marks

-- ---- as many marks as own paths

abbrev RegionMarked : ExtendedRegion → Type 0
RegionMarked r = (around : List ℕ) → marked (own_in_region r around) ≡ own_marks (states_in_region r)

abbrev StateMarked : ExtendedState → Type 0
StateMarked s = (around before : List ℕ) → marked (own_in_state s around before) ≡ own_marks (states_in_state s)

regions_marked : (regions : List ExtendedRegion) → Each RegionMarked regions → (around : List ℕ)
    → marked (beside (map own_in_region regions) around) ≡ own_marks (row (map states_in_region regions))
regions_marked [] h around = refl
regions_marked (r ∷ regions) h around =
    let others : List (List ℕ) = beside (map own_in_region regions) around in
    let marks : Marks = row (map states_in_region regions) in
    marked_both (own_in_region r around) others
    ∙ both_same (marked (own_in_region r around)) (marked others) (own_marks (states_in_region r)) (own_marks marks) (h.0 around)
    (regions_marked regions h.1 around)
    ∙ sym (own_both (states_in_region r) marks)

states_marked : (states : List ExtendedState) → Each StateMarked states → (around before : List ℕ)
    → marked (among (map own_in_state states) around before) ≡ own_marks (row (map states_in_state states))
states_marked [] h around before = refl
states_marked (s ∷ states) h around before =
    let others : List (List ℕ) = among (map own_in_state states) around before in
    let marks : Marks = row (map states_in_state states) in
    marked_both (own_in_state s around before) others
    ∙ both_same (marked (own_in_state s around before)) (marked others) (own_marks (states_in_state s)) (own_marks marks) (h.0 around before)
    (states_marked states h.1 around before)
    ∙ sym (own_both (states_in_state s) marks)

-- what stands before a state is not marked
none_before : (entry : List Effect) (marks : Marks) → own_marks (before entry ++ marks) ≡ own_marks marks
none_before [] marks = refl
none_before (e ∷ entry) marks = refl

own_marked : (is_own : Bool) (name : List ℕ) (regions : List Paths) (inside : Marks) (around prefix : List ℕ)
    → ((at : List ℕ) → marked (beside regions at) ≡ own_marks inside)
    → marked (parted is_own name regions around prefix) ≡ own_marks (is_own ∷ inside)
own_marked true name regions inside around prefix h = ap (λ m. true ∷ m) (h ((prefix ++ name) ++ codes "/"))
own_marked false name regions inside around prefix h = h around

all_marked : Cases RegionMarked StateMarked
all_marked = record {
  of_region = λ r h around.
      ap marked (region_parts r around)
      ∙ states_marked r.states h around ((around ++ r.name) ++ codes ".")
      ∙ sym (ap own_marks (fold-roll-ExtendedRegion Marks Marks region_marks state_marks r));
  of_state = λ s h around prefix.
      let inside : Marks = row (map states_in_region s.regions) in
      ap marked (state_parts s around prefix)
      ∙ own_marked s.is_own s.name (map own_in_region s.regions) inside around prefix (regions_marked s.regions h)
      ∙ sym (none_before s.entry (s.is_own ∷ inside))
      ∙ sym (ap own_marks (fold-roll-ExtendedState Marks Marks region_marks state_marks s));
}

each_marked : (regions : List ExtendedRegion) → Each RegionMarked regions
each_marked [] = tt
each_marked (r ∷ regions) = (each_region RegionMarked StateMarked all_marked r, each_marked regions)

pub each_once : (c : ExtendedChart) → present (rows_of (with_entry c).regions).states ≡ numbers_from 0 (length (own_paths c.regions))
each_once c =
    let left : List ExtendedRegion = (with_entry c).regions in
    let own : List (List ℕ) = own_paths left in
    numbered 0 (row (map states_in_region left))
    ∙ ap (λ m. numbers_from 0 (length m)) (sym (regions_marked left (each_marked left) []))
    ∙ ap (numbers_from 0) (as_many own ∙ ap length (authors_stay c))
