-- What folds make of the parts of a chart without constructs.
use Rattle.std.proofs.Common.{◌≡◌, ℕ, ◌+◌, true, List, [], ◌∷◌, map, refl, ap, ◌∙◌, arith}
use Rattle.sc_text.proofs.EachItem.{Each}
use Rattle.core_charts.specs.declared.region.Region.{Region}
use Rattle.core_charts.specs.declared.region.State.{State}
use Rattle.core_charts.specs.declared.region.Region.TheViews.{out-Region, out-State}
use Rattle.core_charts.specs.declared.region.Region.TheFolds.{fold_out-Region, fold_out-State}
use Rattle.extended_charts.specs.declared.extended.ExtendedRegion.{ExtendedRegion}
use Rattle.extended_charts.specs.declared.extended.ExtendedState.{ExtendedState}
use Rattle.extended_charts.specs.declared.extended.ExtendedRegion.TheOpen.{ExtendedRegion-F, ExtendedState-F}
use Rattle.extended_charts.specs.declared.extended.ExtendedRegion.TheViews.{roll-ExtendedRegion, roll-ExtendedState}
use Rattle.extended_charts.specs.declared.extended.ExtendedRegion.TheFolds.{fold-ExtendedRegion, fold-ExtendedState, fold-roll-ExtendedRegion}
use Rattle.extended_charts.specs.declared.extended.ExtendedRegion.TheFolds.{fold-roll-ExtendedState}
use Rattle.chart_reduction.specs.Laws.{plain_region, plain_state, of_region, of_state}

-- ---- lists

pub all_same : {A : Type 0} (f : A → A) (xs : List A) → Each (λ x. f x ≡ x) xs → map f xs ≡ xs
all_same f [] h = refl
all_same f (x ∷ xs) h = ap (λ y. y ∷ map f xs) h.0 ∙ ap (λ ys. x ∷ ys) (all_same f xs h.1)

pub both_same : {A B : Type 0} (f : B → B) (g : A → B) (xs : List A) → Each (λ x. f (g x) ≡ g x) xs → map f (map g xs) ≡ map g xs
both_same f g [] h = refl
both_same f g (x ∷ xs) h = ap (λ y. y ∷ map f (map g xs)) h.0 ∙ ap (λ ys. g x ∷ ys) (both_same f g xs h.1)

pub from_zero : (n : ℕ) → 0 + n ≡ n
from_zero n = omega arith

-- ---- states and regions, over what stands for the regions and states in them

abbrev pub over_state : {A B : Type 0} → State → List A → ExtendedState-F A B
over_state s regions =
    record {
      name = (out-State s).name;
      is_own = true;
      is_initial = (out-State s).is_initial;
      is_final = (out-State s).is_final;
      entry = [];
      exit = [];
      during = [];
      regions = regions;
      transitions = (out-State s).transitions;
    }

abbrev pub over_region : {A B : Type 0} → Region → List B → ExtendedRegion-F A B
over_region r states = record { name = (out-Region r).name; states = states }

pub state_is : (s : State) → of_state s ≡ roll-ExtendedState (over_state s (map of_region (out-State s).regions))
state_is s = fold_out-State ExtendedRegion ExtendedState plain_region plain_state s

pub region_is : (r : Region) → of_region r ≡ roll-ExtendedRegion (over_region r (map of_state (out-Region r).states))
region_is r = fold_out-Region ExtendedRegion ExtendedState plain_region plain_state r

pub state_folded : (A B : Type 0) (f : ExtendedRegion-F A B → A) (g : ExtendedState-F A B → B) (s : State) →
    fold-ExtendedState A B f g (of_state s) ≡ g (over_state s (map (fold-ExtendedRegion A B f g) (map of_region (out-State s).regions)))
state_folded A B f g s =
    ap (fold-ExtendedState A B f g) (state_is s) ∙ fold-roll-ExtendedState A B f g (over_state s (map of_region (out-State s).regions))

pub region_folded : (A B : Type 0) (f : ExtendedRegion-F A B → A) (g : ExtendedState-F A B → B) (r : Region) →
    fold-ExtendedRegion A B f g (of_region r) ≡ f (over_region r (map (fold-ExtendedState A B f g) (map of_state (out-Region r).states)))
region_folded A B f g r =
    ap (fold-ExtendedRegion A B f g) (region_is r) ∙ fold-roll-ExtendedRegion A B f g (over_region r (map of_state (out-Region r).states))
