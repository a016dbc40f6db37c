-- Induction over regions and states, and what their own paths are by their parts.
use Rattle.std.proofs.Common.{◌≡◌, ℕ, Bool, true, false, List, [], ◌∷◌, ◌++◌, map, codes, refl, ap, sym, subst, ◌∙◌, append-nil, append_assoc}
use Rattle.std.specs.Prelude.{if◌then◌else◌}
use Rattle.sc_text.proofs.EachItem.{Each}
use Rattle.core_charts.specs.Paths.{Paths, beside}
use Rattle.extended_charts.specs.declared.extended.ExtendedRegion.{ExtendedRegion}
use Rattle.extended_charts.specs.declared.extended.ExtendedState.{ExtendedState}
use Rattle.extended_charts.specs.declared.extended.ExtendedRegion.TheOpen.{ExtendedRegion-F, ExtendedState-F}
use Rattle.extended_charts.specs.declared.extended.ExtendedRegion.TheViews.{roll-ExtendedRegion, roll-ExtendedState}
use Rattle.extended_charts.specs.declared.extended.ExtendedRegion.TheFolds.{fold-roll-ExtendedRegion, fold-roll-ExtendedState}
use Rattle.extended_charts.specs.declared.extended.ExtendedRegion.TheFolds.{ind-ExtendedRegion, ind-ExtendedState, map-ExtendedRegion, map-ExtendedState}
use Rattle.extended_charts.specs.Walks.{walk}
use Rattle.extended_charts.proofs.Walks.{walked}
use Rattle.author_states.specs.Own.{OwnPaths, among, own_in_region, own_in_state, region_own, state_own}

-- ---- induction

-- a law of regions and one of states: each holds of what has parts of which the other one holds
pub record Cases (P : ExtendedRegion → Type 0) (Q : ExtendedState → Type 0) : Type 0 where
  pub of_region : (r : ExtendedRegion-F ExtendedRegion ExtendedState) → Each Q r.states → P (roll-ExtendedRegion r)
  pub of_state : (s : ExtendedState-F ExtendedRegion ExtendedState) → Each P s.regions → Q (roll-ExtendedState s)

abbrev With : {A : Type 0} → (A → Type 0) → Type 0
With {A} P = (x : A) × P x

each_held : {A : Type 0} (P : A → Type 0) (xs : List (With P)) → Each P (map (λ x. x.0) xs)
each_held P [] = tt
each_held P (x ∷ xs) = (x.1, each_held P xs)

module _ (P : ExtendedRegion → Type 0) (Q : ExtendedState → Type 0) (cases : Cases P Q) where
  region_layer : (x : ExtendedRegion-F ExtendedRegion ExtendedState) (y : ExtendedRegion-F (With P) (With Q))
      → map-ExtendedRegion (With P) (With Q) ExtendedRegion ExtendedState (λ e. e.0) (λ e. e.0) y ≡ x → P (roll-ExtendedRegion x)
  region_layer x y is =
      let L : ExtendedRegion-F ExtendedRegion ExtendedState → Type 0 = λ z. P (roll-ExtendedRegion z) in
      subst L is (cases.of_region (map-ExtendedRegion (With P) (With Q) ExtendedRegion ExtendedState (λ e. e.0) (λ e. e.0) y) (each_held Q y.states))

  state_layer : (x : ExtendedState-F ExtendedRegion ExtendedState) (y : ExtendedState-F (With P) (With Q))
      → map-ExtendedState (With P) (With Q) ExtendedRegion ExtendedState (λ e. e.0) (λ e. e.0) y ≡ x → Q (roll-ExtendedState x)
  state_layer x y is =
      let L : ExtendedState-F ExtendedRegion ExtendedState → Type 0 = λ z. Q (roll-ExtendedState z) in
      subst L is (cases.of_state (map-ExtendedState (With P) (With Q) ExtendedRegion ExtendedState (λ e. e.0) (λ e. e.0) y) (each_held P y.regions))

  pub each_region : (r : ExtendedRegion) → P r
  each_region = ind-ExtendedRegion P Q region_layer state_layer

  pub each_state : (s : ExtendedState) → Q s
  each_state = ind-ExtendedState P Q region_layer state_layer

-- ---- own paths by parts

pub region_parts : (r : ExtendedRegion-F ExtendedRegion ExtendedState) (around : List ℕ)
    → own_in_region (roll-ExtendedRegion r) around ≡ among (map own_in_state r.states) around ((around ++ r.name) ++ codes ".")
region_parts r around = ap (λ (f : Paths). f around) (fold-roll-ExtendedRegion Paths OwnPaths region_own state_own r)

-- of a state, by whether it is the author's, its name, and the own paths in its regions
abbrev pub parted : (is_own : Bool) → (name : List ℕ) → List Paths → OwnPaths
parted is_own name regions around before =
    if is_own then (before ++ name) ∷ beside regions ((before ++ name) ++ codes "/") else beside regions around

pub state_parts : (s : ExtendedState-F ExtendedRegion ExtendedState) (around before : List ℕ)
    → own_in_state (roll-ExtendedState s) around before ≡ parted s.is_own s.name (map own_in_region s.regions) around before
state_parts s around before = ap (λ (f : OwnPaths). f around before) (fold-roll-ExtendedState Paths OwnPaths region_own state_own s)

-- ---- what has the same own paths

abbrev pub SameRegion : ExtendedRegion → ExtendedRegion → Type 0
SameRegion made r = (around : List ℕ) → own_in_region made around ≡ own_in_region r around

abbrev pub SameState : ExtendedState → ExtendedState → Type 0
SameState made s = (around before : List ℕ) → own_in_state made around before ≡ own_in_state s around before

abbrev pub SameRegions : List ExtendedRegion → List ExtendedRegion → Type 0
SameRegions made regions = (around : List ℕ) → beside (map own_in_region made) around ≡ beside (map own_in_region regions) around

abbrev pub SameStates : List ExtendedState → List ExtendedState → Type 0
SameStates made states =
    (around before : List ℕ) → among (map own_in_state made) around before ≡ among (map own_in_state states) around before

-- states of which none is the author's, nor any in them
abbrev pub Silent : List ExtendedState → Type 0
Silent states = (around before : List ℕ) → among (map own_in_state states) around before ≡ []

pub both_same : {A : Type 0} (a b c d : List A) → a ≡ c → b ≡ d → a ++ b ≡ c ++ d
both_same a b c d first second = ap (λ xs. xs ++ b) first ∙ ap (λ xs. c ++ xs) second

-- a region whose states are the same
pub region_same : (made r : ExtendedRegion-F ExtendedRegion ExtendedState) → made.name ≡ r.name → SameStates made.states r.states
    → SameRegion (roll-ExtendedRegion made) (roll-ExtendedRegion r)
region_same made r named same around =
    region_parts made around
    ∙ same around ((around ++ made.name) ++ codes ".")
    ∙ ap (λ n. among (map own_in_state r.states) around ((around ++ n) ++ codes ".")) named
    ∙ sym (region_parts r around)

parted_same : (is_own : Bool) (name : List ℕ) (made regions : List ExtendedRegion) (around before : List ℕ) → SameRegions made regions
    → parted is_own name (map own_in_region made) around before ≡ parted is_own name (map own_in_region regions) around before
parted_same true name made regions around before same = ap (λ ps. (before ++ name) ∷ ps) (same ((before ++ name) ++ codes "/"))
parted_same false name made regions around before same = same around

-- a state whose regions are the same
pub state_same : (made s : ExtendedState-F ExtendedRegion ExtendedState) → made.is_own ≡ s.is_own → made.name ≡ s.name
    → SameRegions made.regions s.regions → SameState (roll-ExtendedState made) (roll-ExtendedState s)
state_same made s owned named same around before =
    state_parts made around before
    ∙ parted_same made.is_own made.name made.regions s.regions around before same
    ∙ ap (λ o. parted o made.name (map own_in_region s.regions) around before) owned
    ∙ ap (λ n. parted s.is_own n (map own_in_region s.regions) around before) named
    ∙ sym (state_parts s around before)

-- ---- rows

pub mapped_regions : (f : ExtendedRegion → ExtendedRegion) (regions : List ExtendedRegion) → Each (λ r. SameRegion (f r) r) regions
    → SameRegions (map f regions) regions
mapped_regions f [] h around = refl
mapped_regions f (r ∷ regions) h around =
    both_same (own_in_region (f r) around) (beside (map own_in_region (map f regions)) around) (own_in_region r around)
    (beside (map own_in_region regions) around) (h.0 around) (mapped_regions f regions h.1 around)

pub mapped_states : (f : ExtendedState → ExtendedState) (states : List ExtendedState) → Each (λ s. SameState (f s) s) states
    → SameStates (map f states) states
mapped_states f [] h around before = refl
mapped_states f (s ∷ states) h around before =
    both_same (own_in_state (f s) around before) (among (map own_in_state (map f states)) around before) (own_in_state s around before)
    (among (map own_in_state states) around before) (h.0 around before) (mapped_states f states h.1 around before)

-- what is made of the items of a list, one after the other, where what is made of each one is the same as it
pub walked_regions : {A : Type 0} (P : ExtendedRegion → Type 0) (of : ExtendedRegion → A) (count : A → ℕ) (make : A → ℕ → ExtendedRegion)
    → ((r : ExtendedRegion) → P r → (x : ℕ) → SameRegion (make (of r) x) r) → (regions : List ExtendedRegion) → Each P regions → (x : ℕ)
    → SameRegions (walk count (λ a y. make a y ∷ []) x (map of regions)) regions
walked_regions P of count make one =
    walked (λ (regions made : List ExtendedRegion). SameRegions made regions) P of count (λ a y. make a y ∷ []) (λ around. refl)
    (λ r x regions made h same around.
    both_same (own_in_region (make (of r) x) around) (beside (map own_in_region made) around) (own_in_region r around)
    (beside (map own_in_region regions) around) (one r h x around) (same around))

pub walked_states : {A : Type 0} (P : ExtendedState → Type 0) (of : ExtendedState → A) (count : A → ℕ) (make : A → ℕ → ExtendedState)
    → ((s : ExtendedState) → P s → (x : ℕ) → SameState (make (of s) x) s) → (states : List ExtendedState) → Each P states → (x : ℕ)
    → SameStates (walk count (λ a y. make a y ∷ []) x (map of states)) states
walked_states P of count make one =
    walked (λ (states made : List ExtendedState). SameStates made states) P of count (λ a y. make a y ∷ []) (λ around before. refl)
    (λ s x states made h same around before.
    both_same (own_in_state (make (of s) x) around before) (among (map own_in_state made) around before) (own_in_state s around before)
    (among (map own_in_state states) around before) (one s h x around before) (same around before))

pub beside_append : (xs ys : List ExtendedRegion) (around : List ℕ)
    → beside (map own_in_region (xs ++ ys)) around ≡ beside (map own_in_region xs) around ++ beside (map own_in_region ys) around
beside_append [] ys around = refl
beside_append (x ∷ xs) ys around =
    ap (λ ps. own_in_region x around ++ ps) (beside_append xs ys around)
    ∙ sym (append_assoc (own_in_region x around) (beside (map own_in_region xs) around) (beside (map own_in_region ys) around))

pub among_append : (xs ys : List ExtendedState) (around before : List ℕ)
    → among (map own_in_state (xs ++ ys)) around before
    ≡ among (map own_in_state xs) around before ++ among (map own_in_state ys) around before
among_append [] ys around before = refl
among_append (x ∷ xs) ys around before =
    ap (λ ps. own_in_state x around before ++ ps) (among_append xs ys around before)
    ∙ sym (append_assoc (own_in_state x around before) (among (map own_in_state xs) around before) (among (map own_in_state ys) around before))

pub silent_append : (xs ys : List ExtendedState) → Silent xs → Silent ys → Silent (xs ++ ys)
silent_append xs ys first second around before =
    among_append xs ys around before
    ∙ both_same (among (map own_in_state xs) around before) (among (map own_in_state ys) around before) [] [] (first around before) (second around before)

-- silent states behind others
pub silent_behind : (xs ys : List ExtendedState) → Silent ys → SameStates (xs ++ ys) xs
silent_behind xs ys silent around before =
    among_append xs ys around before
    ∙ ap (λ ps. among (map own_in_state xs) around before ++ ps) (silent around before)
    ∙ append-nil (among (map own_in_state xs) around before)
