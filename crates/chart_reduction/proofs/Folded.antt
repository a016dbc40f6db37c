-- What states become, by their parts.
use Rattle.std.proofs.Common.{◌≡◌, Bool, List, [], ◌∷◌, ◌++◌, map, sym, ap, ◌∙◌, append_assoc}
use Rattle.core_charts.specs.declared.region.Effect.{Effect}
use Rattle.core_charts.specs.declared.region.Transition.{Transition}
use Rattle.extended_charts.specs.declared.extended.ExtendedRegion.{ExtendedRegion}
use Rattle.extended_charts.specs.declared.extended.ExtendedState.{ExtendedState}
use Rattle.extended_charts.specs.declared.extended.ExtendedRegion.TheViews.{out-ExtendedState}
use Rattle.extended_charts.specs.declared.extended.ExtendedRegion.TheFolds.{fold_out-ExtendedState}
use Rattle.core_charts.specs.Elements.{row}
use Rattle.chart_reduction.specs.Rows.{Marks, before, region_marks, state_marks, transition_marks}
use Rattle.chart_reduction.specs.Rows.{states_in_region, states_in_state, transitions_in_region, transitions_in_state}

pub state_states : (s : ExtendedState) → states_in_state s
    ≡ (before (out-ExtendedState s).entry ++ (out-ExtendedState s).is_own ∷ []) ++ row (map states_in_region (out-ExtendedState s).regions)
state_states s =
    fold_out-ExtendedState Marks Marks region_marks state_marks s
    ∙ sym (append_assoc (before (out-ExtendedState s).entry) ((out-ExtendedState s).is_own ∷ []) (row (map states_in_region (out-ExtendedState s).regions)))

state_transitions : (s : ExtendedState) → transitions_in_state s
    ≡ (before (out-ExtendedState s).entry ++ map (λ t. (out-ExtendedState s).is_own) (out-ExtendedState s).transitions)
    ++ row (map transitions_in_region (out-ExtendedState s).regions)
state_transitions s = fold_out-ExtendedState Marks Marks region_marks transition_marks s

pub transitions_put : (s : ExtendedState) (entry : List Effect) (first : Marks) (transitions : List Transition) (own with_own : Marks)
    (regions : List ExtendedRegion) (inside all : Marks)
    → entry ≡ (out-ExtendedState s).entry → first ≡ before entry
    → transitions ≡ (out-ExtendedState s).transitions → own ≡ map (λ t. (out-ExtendedState s).is_own) transitions → with_own ≡ first ++ own
    → regions ≡ (out-ExtendedState s).regions → inside ≡ row (map transitions_in_region regions) → all ≡ with_own ++ inside
    → all ≡ transitions_in_state s
transitions_put s entry first transitions own with_own regions inside all of_entry of_first of_transitions of_own of_with of_regions of_inside of_all =
    let O : Bool = (out-ExtendedState s).is_own in
    let B : Marks = before (out-ExtendedState s).entry in
    let T : Marks = map (λ t. O) (out-ExtendedState s).transitions in
    let e : first ≡ B = of_first ∙ ap before of_entry in
    let f : own ≡ T = of_own ∙ ap (λ ts. map (λ t. O) ts) of_transitions in
    let g : inside ≡ row (map transitions_in_region (out-ExtendedState s).regions) =
    of_inside ∙ ap (λ rs. row (map transitions_in_region rs)) of_regions in
    of_all ∙ ap (λ m. m ++ inside) of_with ∙ ap (λ m. (m ++ own) ++ inside) e ∙ ap (λ m. (B ++ m) ++ inside) f ∙ ap (λ m. (B ++ T) ++ m) g
    ∙ sym (state_transitions s)
