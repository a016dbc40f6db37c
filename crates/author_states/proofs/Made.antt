-- What reductions make has no own paths.
use Rattle.std.proofs.Common.{◌≡◌, ℕ, suc, ◌==◌, Bool, true, false, List, [], ◌∷◌, ◌++◌, map, codes, refl, ap, ◌∙◌, append-nil}
use Rattle.core_charts.specs.declared.region.Effect.{Effect}
use Rattle.core_charts.specs.declared.region.Transition.{Transition}
use Rattle.sc_text.specs.MadeNames.{numbered}
use Rattle.extended_charts.specs.declared.extended.ExtendedRegion.{ExtendedRegion}
use Rattle.extended_charts.specs.declared.extended.ExtendedState.{ExtendedState}
use Rattle.extended_charts.specs.Making.{all_passing, always, made_state, passing, region}
use Rattle.core_charts.specs.Paths.{beside}
use Rattle.author_states.specs.Own.{own_in_region, own_in_state}
use Rattle.author_states.proofs.Walking.{SameRegions, Silent, beside_append, region_parts, silent_append, state_parts}

-- a state that is made, with nothing inside
pub made_silent : (name : List ℕ) (is_initial : Bool) (transitions : List Transition) → Silent (made_state name is_initial [] transitions ∷ [])
made_silent name is_initial transitions around before =
    append-nil (own_in_state (made_state name is_initial [] transitions) around before)
    ∙ state_parts (record {
      name = name;
      is_own = false;
      is_initial = is_initial;
      is_final = false;
      entry = [];
      exit = [];
      during = [];
      regions = [];
      transitions = transitions;
    }) around before

-- in front of silent ones
pub one_silent : (s : ExtendedState) (states : List ExtendedState) → Silent (s ∷ []) → Silent states → Silent (s ∷ states)
one_silent s states first others = silent_append (s ∷ []) states first others

pub passing_silent : (immediate : Bool) (place : ℕ) (effects : List Effect) (target : ℕ) → Silent (passing immediate place effects target ∷ [])
passing_silent immediate place effects target =
    made_silent (numbered (codes "step__") place) (place == 0) (always immediate effects target ∷ [])

pub all_passing_silent : (place : ℕ) (effects : List Effect) → Silent (all_passing place effects)
all_passing_silent place [] = λ around before. refl
all_passing_silent place (e ∷ effects) =
    one_silent (passing true place (e ∷ []) (suc place)) (all_passing (suc place) effects) (passing_silent true place (e ∷ []) (suc place))
    (all_passing_silent (suc place) effects)

-- a region of such states behind others
pub silent_region : (name : List ℕ) (states : List ExtendedState) (regions : List ExtendedRegion) → Silent states
    → SameRegions (regions ++ region name states ∷ []) regions
silent_region name states regions silent around =
    beside_append regions (region name states ∷ []) around
    ∙ ap (λ ps. beside (map own_in_region regions) around ++ ps)
    (append-nil (own_in_region (region name states) around)
    ∙ region_parts (record { name = name; states = states }) around ∙ silent around ((around ++ name) ++ codes "."))
    ∙ append-nil (beside (map own_in_region regions) around)
