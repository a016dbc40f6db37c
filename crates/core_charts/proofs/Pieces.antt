-- What is in pieces of a chart: of a state itself and its transitions, and what is in its regions; of a region itself, and
-- what is in its states.
use Rattle.std.proofs.Common.{◌≡◌, ℕ, suc, ◌+◌, List, [], ◌∷◌, map, length, sym, ap, ◌∙◌, arith}
use Rattle.std.proofs.lemmas.List.{append-nil}
use Rattle.core_charts.specs.declared.region.Transition.{Transition}
use Rattle.core_charts.specs.declared.region.Region.{Region}
use Rattle.core_charts.specs.declared.region.State.{State}
use Rattle.core_charts.specs.declared.region.Region.TheViews.{out-Region, out-State}
use Rattle.core_charts.specs.declared.region.Region.TheFolds.{fold_out-Region, fold_out-State}
use Rattle.core_charts.specs.Chart.{Chart}
use Rattle.core_charts.specs.Elements.{Contents, Names, all_effects, contents, in_region, in_state, of_region, of_state, regions_in_region}
use Rattle.core_charts.specs.Elements.{regions_in_state, regions_of_region, regions_of_state, row, states_in_region, states_in_state, states_of_region}
use Rattle.core_charts.specs.Elements.{states_of_state}
use Rattle.core_charts.specs.Numbers.{behind_transition, behind_transitions, first, within_region, within_state}
use Rattle.core_charts.proofs.Standing.{Passes, Placed, at_whole, both, passes_both}

abbrev pub in_regions : List Region → Contents
in_regions regions =
    record {
      regions = row (map regions_of_region regions);
      states = row (map states_of_region regions);
      transitions = row (map of_region regions);
    }

abbrev pub in_states : List State → Contents
in_states states =
    record {
      regions = row (map regions_of_state states);
      states = row (map states_of_state states);
      transitions = row (map of_state states);
    }

abbrev pub of_one_region : Region → Contents
of_one_region r = record { regions = regions_of_region r; states = states_of_region r; transitions = of_region r }

abbrev pub of_one_state : State → Contents
of_one_state s = record { regions = regions_of_state s; states = states_of_state s; transitions = of_state s }

-- a state with its transitions, and a region, without what is inside
abbrev pub state_alone : List ℕ → List Transition → Contents
state_alone name own = record { regions = []; states = name ∷ []; transitions = own }

abbrev pub region_alone : List ℕ → Contents
region_alone name = record { regions = name ∷ []; states = []; transitions = [] }

-- ---- the numbers behind them

pub none_pass : Passes (record { regions = []; states = []; transitions = [] }) (λ at. at)
none_pass =
    record {
      region = λ at. omega arith;
      state = λ at. omega arith;
      transition = λ at. omega arith;
      effect = λ at. omega arith;
    }

transitions_pass : (own : List Transition) → Passes (record { regions = []; states = []; transitions = own }) (behind_transitions own)
transitions_pass [] = none_pass
transitions_pass (t ∷ own) =
    passes_both (record { regions = []; states = []; transitions = t ∷ [] }) (record { regions = []; states = []; transitions = own })
    (behind_transition t) (behind_transitions own)
    (record {
      region = λ at. omega arith;
      state = λ at. omega arith;
      transition = λ at. omega arith;
      effect = λ at. ap (λ es. at.effect + length es) (sym (append-nil t.effects));
    }) (transitions_pass own)

pub within_pass : (name : List ℕ) (own : List Transition) → Passes (state_alone name own) (within_state own)
within_pass name own =
    passes_both (state_alone name []) (record { regions = []; states = []; transitions = own }) (λ at. record at { state = suc at.state })
    (behind_transitions own)
    (record {
      region = λ at. omega arith;
      state = λ at. omega arith;
      transition = λ at. omega arith;
      effect = λ at. omega arith;
    }) (transitions_pass own)

pub region_passes : (name : List ℕ) → Passes (region_alone name) within_region
region_passes name =
    record {
      region = λ at. omega arith;
      state = λ at. omega arith;
      transition = λ at. omega arith;
      effect = λ at. omega arith;
    }

-- ---- their parts

abbrev held_in : Names → Names → List Transition → Contents
held_in a b own = record { regions = a; states = b; transitions = own }

same_contents : (a b c d : Names) (s t : List Transition) → a ≡ b → c ≡ d → s ≡ t → held_in a c s ≡ held_in b d t
same_contents a b c d s t e f g = ap (λ r. held_in r c s) e ∙ ap (λ q. held_in b q s) f ∙ ap (held_in b d) g

pub state_parts : (s : State) →
    of_one_state s ≡ both (state_alone (out-State s).name (out-State s).transitions) (in_regions (out-State s).regions)
state_parts s =
    same_contents _ _ _ _ _ _ (fold_out-State Names Names regions_in_region regions_in_state s)
    (fold_out-State Names Names states_in_region states_in_state s) (fold_out-State (List Transition) (List Transition) in_region in_state s)

pub region_parts : (r : Region) → of_one_region r ≡ both (region_alone (out-Region r).name) (in_states (out-Region r).states)
region_parts r =
    same_contents _ _ _ _ _ _ (fold_out-Region Names Names regions_in_region regions_in_state r)
    (fold_out-Region Names Names states_in_region states_in_state r) (fold_out-Region (List Transition) (List Transition) in_region in_state r)

-- what is in a chart stands among all of its elements
pub placed_whole : (c : Chart) → Placed (contents c) first (in_regions c.regions)
placed_whole c =
    record {
      regions = at_whole (contents c).regions;
      states = at_whole (contents c).states;
      transitions = at_whole (contents c).transitions;
      effects = at_whole (all_effects (contents c).transitions);
    }
