-- What states and regions hold, by what they are rolled from.
use Rattle.std.proofs.Common.{◌≡◌, ℕ, Bool, Option, List, [], ◌∷◌, ◌++◌, map, refl, sym, ap, ◌∙◌, append_assoc}
use Rattle.std.proofs.lemmas.List.{append-nil}
use Rattle.core_charts.specs.declared.region.Transition.{Transition}
use Rattle.core_charts.specs.declared.region.Region.{Region}
use Rattle.core_charts.specs.declared.region.State.{State}
use Rattle.core_charts.specs.declared.region.Region.TheOpen.{Region-F, State-F}
use Rattle.core_charts.specs.declared.region.Region.TheViews.{roll-Region, roll-State}
use Rattle.core_charts.specs.declared.region.Region.TheFolds.{fold-roll-Region, fold-roll-State}
use Rattle.core_charts.specs.Elements.{Contents, Names, in_region, in_state, of_region, of_state, regions_in_region, regions_in_state, regions_of_region}
use Rattle.core_charts.specs.Elements.{regions_of_state, row, states_in_region, states_in_state, states_of_region, states_of_state}
use Rattle.node_elements.specs.declared.expansion.origins.Origins.{Origins}
use Rattle.node_elements.proofs.Coming.{Comes, Made, comes_as, joined, moves, one_region, one_state}

-- ---- lists of states and regions

pub row_append : {A B : Type 0} (f : A → List B) (xs ys : List A) → row (map f (xs ++ ys)) ≡ row (map f xs) ++ row (map f ys)
row_append f [] ys = refl
row_append f (x ∷ xs) ys =
    ap (λ those. f x ++ those) (row_append f xs ys) ∙ sym (append_assoc (f x) (row (map f xs)) (row (map f ys)))

-- what stands in states, and in regions
abbrev pub of_states : List State → List (Option ℕ) → Made
of_states states stands =
    record {
      regions = row (map regions_of_state states);
      states = row (map states_of_state states);
      transitions = row (map of_state states);
      stands = stands;
    }

abbrev pub of_regions : List Region → List (Option ℕ) → Made
of_regions regions stands =
    record {
      regions = row (map regions_of_region regions);
      states = row (map states_of_region regions);
      transitions = row (map of_region regions);
      stands = stands;
    }

pub states_join : (all : Contents) (a b : List State) (s t : List (Option ℕ)) (x : Origins) → Comes all (joined (of_states a s) (of_states b t)) x →
    Comes all (of_states (a ++ b) (s ++ t)) x
states_join all a b s t x h =
    comes_as all (joined (of_states a s) (of_states b t)) (of_states (a ++ b) (s ++ t)) x (sym (row_append regions_of_state a b))
    (sym (row_append states_of_state a b)) (sym (row_append of_state a b)) refl h

pub regions_join : (all : Contents) (a b : List Region) (s t : List (Option ℕ)) (x : Origins) →
    Comes all (joined (of_regions a s) (of_regions b t)) x → Comes all (of_regions (a ++ b) (s ++ t)) x
regions_join all a b s t x h =
    comes_as all (joined (of_regions a s) (of_regions b t)) (of_regions (a ++ b) (s ++ t)) x (sym (row_append regions_of_region a b))
    (sym (row_append states_of_region a b)) (sym (row_append of_region a b)) refl h

-- ---- one state, and one region

abbrev pub state : List ℕ → Bool → Bool → List Region → List Transition → State
state name initial final regions own =
    roll-State (record { name = name; is_initial = initial; is_final = final; regions = regions; transitions = own })

-- a state with its transitions, and what is in its regions
abbrev pub in_one : List ℕ → Option ℕ → List Transition → List Region → List (Option ℕ) → Made
in_one name stands own regions inside = joined (one_state name stands) (joined (moves own) (of_regions regions inside))

pub state_holds : (all : Contents) (name : List ℕ) (initial final : Bool) (regions : List Region) (own : List Transition) (stands : Option ℕ)
    (inside : List (Option ℕ)) (x : Origins) → Comes all (in_one name stands own regions inside) x →
    Comes all (of_states (state name initial final regions own ∷ []) (stands ∷ inside)) x
state_holds all name initial final regions own stands inside x h =
    let s : State-F Region State = record { name = name; is_initial = initial; is_final = final; regions = regions; transitions = own } in
    comes_as all (in_one name stands own regions inside) (of_states (roll-State s ∷ []) (stands ∷ inside)) x
    (sym (append-nil (regions_of_state (roll-State s)) ∙ fold-roll-State Names Names regions_in_region regions_in_state s))
    (sym (append-nil (states_of_state (roll-State s)) ∙ fold-roll-State Names Names states_in_region states_in_state s))
    (sym (append-nil (of_state (roll-State s)) ∙ fold-roll-State (List Transition) (List Transition) in_region in_state s)) refl h

-- one without regions
pub simple_holds : (all : Contents) (name : List ℕ) (initial final : Bool) (own : List Transition) (stands : Option ℕ) (x : Origins) →
    Comes all (joined (one_state name stands) (moves own)) x → Comes all (of_states (state name initial final [] own ∷ []) (stands ∷ [])) x
simple_holds all name initial final own stands x h =
    state_holds all name initial final [] own stands [] x
    (comes_as all (joined (one_state name stands) (moves own)) (in_one name stands own [] []) x refl refl (sym (append-nil own)) refl h)

pub region_holds : (all : Contents) (name : List ℕ) (states : List State) (stands : List (Option ℕ)) (x : Origins) →
    Comes all (joined (one_region name) (of_states states stands)) x →
    Comes all (of_regions (roll-Region (record { name = name; states = states }) ∷ []) stands) x
region_holds all name states stands x h =
    let r : Region-F Region State = record { name = name; states = states } in
    comes_as all (joined (one_region name) (of_states states stands)) (of_regions (roll-Region r ∷ []) stands) x
    (sym (append-nil (regions_of_region (roll-Region r)) ∙ fold-roll-Region Names Names regions_in_region regions_in_state r))
    (sym (append-nil (states_of_region (roll-Region r)) ∙ fold-roll-Region Names Names states_in_region states_in_state r))
    (sym (append-nil (of_region (roll-Region r)) ∙ fold-roll-Region (List Transition) (List Transition) in_region in_state r)) refl h
