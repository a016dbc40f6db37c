-- The pass of during actions that end keeps own paths.
use Rattle.std.proofs.Common.{ℕ, suc, ◌+◌, ◌==◌, Bool, true, false, Option, Some, List, [], ◌∷◌, ◌++◌, map, length, codes, refl, ap, ◌∙◌}
use Rattle.std.proofs.Common.{append-nil}
use Rattle.sc_values.specs.declared.expression.Expr.{Expr}
use Rattle.sc_values.specs.declared.expression.Expr.TheVariants as expr
use Rattle.core_charts.specs.declared.region.Transition.{Transition}
use Rattle.core_charts.specs.declared.region.TransitionKind.TheVariants as kind
use Rattle.sc_text.specs.MadeNames.{numbered}
use Rattle.extended_charts.specs.declared.extended.During.{During}
use Rattle.extended_charts.specs.declared.extended.ExtendedRegion.{ExtendedRegion}
use Rattle.extended_charts.specs.declared.extended.ExtendedState.{ExtendedState}
use Rattle.extended_charts.specs.declared.extended.ExtendedRegion.TheFolds.{fold-roll-ExtendedRegion, fold-roll-ExtendedState}
use Rattle.extended_charts.specs.Making.{always, one, passing, region}
use Rattle.extended_charts.specs.Durings.{immediate_ones, steps}
use Rattle.extended_charts.specs.Holds.{condition, ended}
use Rattle.chart_reduction.specs.Endings.{EndingRegion, EndingState, all_at_once, all_regions, all_states, beginning, body, body_region, ending_in_region}
use Rattle.chart_reduction.specs.Endings.{ending_in_state, ending_states, first_states, inside, is_ending, left_durings, left_transitions, region_step}
use Rattle.chart_reduction.specs.Endings.{state_step, telling, tested}
use Rattle.sc_text.proofs.EachItem.{Each}
use Rattle.author_states.specs.Own.{own_in_region, own_in_state}
use Rattle.author_states.proofs.Folded.{ended_silent, steps_silent}
use Rattle.author_states.proofs.Made.{made_silent, one_silent, passing_silent, silent_region}
use Rattle.author_states.proofs.Walking.{Cases, each_region, SameRegion, SameState, SameRegions, SameStates, Silent, region_parts, region_same}
use Rattle.author_states.proofs.Walking.{silent_append, state_parts, state_same, walked_regions, walked_states}

-- ---- the region of the during actions

tested_silent : (done place end other : ℕ) → Silent (tested done place end other ∷ [])
tested_silent done place end other =
    made_silent (numbered (codes "step__") place) (place == 0)
    (record (always true [] end) { trigger = Some (expr.Load done) } ∷ always true [] other ∷ [])

first_silent : (done end : ℕ) (first : List During) (at_once : Bool) → Silent (first_states done end first at_once)
first_silent done end first true =
    silent_append (steps 0 first) (tested done (length first) end (suc (length first)) ∷ []) (steps_silent 0 first)
    (tested_silent done (length first) end (suc (length first)))
first_silent done end first false = steps_silent 0 first

ending_silent : (done wait : ℕ) (first all : List During) (at_once : Bool) → Silent (ending_states done wait first all at_once)
ending_silent done wait first all at_once =
    let last : ℕ = suc wait + length all in
    let begun : List ExtendedState = first_states done (suc last) first at_once in
    let waiting : List ExtendedState = passing false wait [] (suc wait) ∷ [] in
    silent_append ((begun ++ waiting) ++ steps (suc wait) all) (tested done last (suc last) wait ∷ ended ∷ [])
    (silent_append (begun ++ waiting) (steps (suc wait) all)
    (silent_append begun waiting (first_silent done (suc last) first at_once) (passing_silent false wait [] (suc wait))) (steps_silent (suc wait) all))
    (one_silent (tested done last (suc last) wait) (ended ∷ []) (tested_silent done last (suc last) wait) ended_silent)

-- ---- the region that has the others

body_same : (done : ℕ) (trigger : Option Expr) (inner : List ExtendedRegion) → SameRegions (body_region done trigger inner ∷ []) inner
body_same done trigger inner around =
    let states : List ExtendedState = body done trigger inner ∷ ended ∷ [] in
    let before : List ℕ = (around ++ codes "body__1") ++ codes "." in
    append-nil (own_in_region (region (codes "body__1") states) around)
    ∙ region_parts (record { name = codes "body__1"; states = states }) around
    ∙ ap (λ ps. own_in_state (body done trigger inner) around before ++ ps) (ended_silent around before)
    ∙ append-nil (own_in_state (body done trigger inner) around before)
    ∙ state_parts (record {
      name = codes "body__1";
      is_own = false;
      is_initial = true;
      is_final = false;
      entry = [];
      exit = [];
      during = [];
      regions = inner;
      transitions = record (always false (telling done ∷ []) 1) { kind = kind.Join; trigger = trigger } ∷ [];
    }) around before

inside_same : (ends : Bool) (done : ℕ) (durings : List During) (transitions : List Transition) (inner regions : List ExtendedRegion)
    → SameRegions inner regions → SameRegions (inside ends done durings transitions inner) regions
inside_same false done durings transitions inner regions same = same
inside_same true done durings transitions inner regions same = λ around.
    let first : List During = immediate_ones durings in
    let at_once : Bool = all_at_once inner in
    let trigger : Option Expr = condition transitions in
    let states : List ExtendedState = ending_states done (length first + one at_once) first durings at_once in
    silent_region (codes "during__1") states (body_region done trigger inner ∷ [])
    (ending_silent done (length first + one at_once) first durings at_once) around
    ∙ body_same done trigger inner around
    ∙ same around

-- ---- states and regions

abbrev RegionEnded : ExtendedRegion → Type 0
RegionEnded r = (x : ℕ) → SameRegion ((ending_in_region r).made x) r

abbrev StateEnded : ExtendedState → Type 0
StateEnded s = (x : ℕ) → SameState ((ending_in_state s).made x) s

regions_ended : (regions : List ExtendedRegion) → Each RegionEnded regions → (x : ℕ)
    → SameRegions (all_regions x (map ending_in_region regions)) regions
regions_ended = walked_regions RegionEnded ending_in_region (λ r. r.endings) (λ r x. r.made x) (λ r same. same)

states_ended : (states : List ExtendedState) → Each StateEnded states → (x : ℕ) → SameStates (all_states x (map ending_in_state states)) states
states_ended = walked_states StateEnded ending_in_state (λ s. s.endings) (λ s x. s.made x) (λ s same. same)

ended_cases : Cases RegionEnded StateEnded
ended_cases = record {
  of_region = λ r h x around.
      ap (λ (t : EndingRegion). own_in_region (t.made x) around) (fold-roll-ExtendedRegion EndingRegion EndingState region_step state_step r)
      ∙ region_same (record { name = r.name; states = all_states x (map ending_in_state r.states) }) r refl (states_ended r.states h x) around;
  of_state = λ s h x around before.
      let ends : Bool = is_ending s.during s.transitions in
      let inner : List ExtendedRegion = all_regions (x + one ends) (map ending_in_region s.regions) in
      ap (λ (t : EndingState). own_in_state (t.made x) around before) (fold-roll-ExtendedState EndingRegion EndingState region_step state_step s)
      ∙ state_same (record s {
        entry = beginning ends x ++ s.entry;
        during = left_durings ends s.during;
        regions = inside ends x s.during s.transitions inner;
        transitions = left_transitions ends s.transitions;
      }) s refl refl (inside_same ends x s.during s.transitions inner s.regions (regions_ended s.regions h (x + one ends))) around before;
}

each_ended : (regions : List ExtendedRegion) → Each RegionEnded regions
each_ended [] = tt
each_ended (r ∷ regions) = (each_region RegionEnded StateEnded ended_cases r, each_ended regions)

pub endings_kept : (x : ℕ) (regions : List ExtendedRegion) → SameRegions (all_regions x (map ending_in_region regions)) regions
endings_kept x regions = regions_ended regions (each_ended regions) x
