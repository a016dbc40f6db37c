-- What the states of a region of a draft are where nothing is wrong with them.
use Rattle.std.proofs.Common.{◌≡◌, ℕ, suc, ◌+◌, ◌≤◌, Bool, true, false, cond, Some, List, [], ◌∷◌, length, map, slice_get, refl, ap, sym, subst, ◌∙◌, arith}
use Rattle.std.specs.Prelude.{◌&&◌, ◌||◌, count_by}
use Rattle.std.proofs.lemmas.List.{length-map}
use Rattle.std.proofs.lemmas.List.Sums.{sum_by-cons}
use Rattle.grammar.proofs.Each.{Every, every_at}
use Rattle.sc_text.specs.declared.language.Language.TheVariants as language
use Rattle.sc_text.specs.Parts.{IsNameIn}
use Rattle.sc_text.specs.declared.drafts.flaw.Flaw.{Flaw}
use Rattle.sc_text.specs.declared.drafts.parts.Declaration.{Declaration}
use Rattle.sc_text.specs.Flaws.{place_among, variable_names}
use Rattle.sc_text.specs.Resolved.{variables_of}
use Rattle.sc_text.proofs.Unflawed.{none_first, none_second, no_flaw, or_first, or_second}
use Rattle.sc_text.proofs.Distinct.{AreFirstBehind, no_more_names, one_more_name}
use Rattle.sc_text.proofs.Declared.{room_for_one, room_for_more, is_first}
use Rattle.core_charts.specs.declared.features.Features.TheVariants as features
use Rattle.core_charts.specs.declared.region.Region.{Region}
use Rattle.core_charts.specs.declared.region.Region.TheOpen.{State-F}
use Rattle.core_charts.specs.declared.region.Region.TheViews.{out-State}
use Rattle.core_charts.specs.declared.region.State.{State}
use Rattle.core_charts.specs.declared.region.Transition.{Transition}
use Rattle.core_charts.specs.Rules.{IsTransition, IsState, has_regions}
use Rattle.core_charts.specs.Tests.{is_join}
use Rattle.chart_reader.specs.declared.text_drafts.draft.DraftRegion.{DraftRegion}
use Rattle.chart_reader.specs.declared.text_drafts.draft.DraftRegion.TheViews.{out-DraftState}
use Rattle.chart_reader.specs.declared.text_drafts.draft.DraftState.{DraftState}
use Rattle.chart_reader.specs.declared.text_drafts.draft.DraftTransition.{DraftTransition}
use Rattle.chart_reader.specs.Flaws.{transition_flaws, is_filled, state_names, final_flaws, state_flaws}
use Rattle.chart_reader.specs.Shape.{IsStateShaped}
use Rattle.chart_reader.specs.Resolved.{transition_of, region_of, state_of}
use Rattle.chart_reader.proofs.Looking.{state_parts, state_out}
use Rattle.chart_reader.proofs.KeptTransitions.{Transitions, transitions_are}

not_both : (b c : Bool) → (b && c) ≡ false → b ≡ true → c ≡ false
not_both true c none is = none
not_both false c none is = absurd cc

not_filled : {A : Type 0} (xs : List A) → is_filled xs ≡ false → xs ≡ []
not_filled [] e = refl
not_filled (x ∷ xs) e = absurd cc

-- what a state of these parts keeps
record AreParts (V : List Declaration) (AreInner : List Region → Type 0) (states : ℕ) (parts : State-F Region State) : Type 0 where
  pub named : IsNameIn language.Chart parts.name
  pub bare : parts.is_final ≡ true → (parts.regions ≡ []) × (parts.transitions ≡ [])
  pub regions : AreInner parts.regions
  pub transition_count : length parts.transitions ≤ 64
  pub one_join : count_by (λ (t : Transition). is_join t.kind) parts.transitions ≤ 1
  pub transitions : (i : ℕ) (t : Transition) → slice_get parts.transitions i ≡ Some t
      → IsTransition features.Extended (variables_of V) states (has_regions parts.regions) t

of_parts : (V : List Declaration) (AreInner : List Region → Type 0) (states : ℕ) (s : State) → AreParts V AreInner states (out-State s)
    → IsState features.Extended (variables_of V) AreInner states s
of_parts V AreInner states s h = record {
  named = h.named;
  bare = h.bare;
  regions = h.regions;
  transition_count = h.transition_count;
  one_join = h.one_join;
  transitions = h.transitions;
}

module _ (V : List Declaration) where
  abbrev vn : List (List ℕ)
  vn = variable_names V

  same_filled : (regions : List DraftRegion) → is_filled regions ≡ has_regions (map (region_of vn) regions)
  same_filled [] = refl
  same_filled (r ∷ regions) = refl

  bare_is : (names : List (List ℕ)) (s : DraftState) → final_flaws s ≡ [] → (state_parts vn names s).is_final ≡ true → ((state_parts vn names s).regions ≡ [])
      × ((state_parts vn names s).transitions ≡ [])
  bare_is names s none final =
      let neither : (is_filled (out-DraftState s).regions || is_filled (out-DraftState s).transitions)
      ≡ false = not_both (out-DraftState s).is_final _ (no_flaw _ _ _ none) final in (
        ap (map (region_of vn)) (not_filled (out-DraftState s).regions (or_first _ _ neither)),
        ap (map (transition_of vn names)) (not_filled (out-DraftState s).transitions (or_second _ _ neither)),
      )

  module _ (inside : List DraftRegion → List Flaw) (AreInside : List DraftRegion → Type 0) (AreInner : List Region → Type 0)
      (keep : (regions : List DraftRegion) → inside regions ≡ [] → AreInside regions → AreInner (map (region_of vn) regions)) (names : List (List ℕ)) where
    abbrev pub IsOne : State → Type 0
    IsOne = IsState features.Extended (variables_of V) AreInner (length names)

    state_is : (s : DraftState) → IsStateShaped AreInside s → final_flaws s ≡ [] → transition_flaws V names (is_filled (out-DraftState s).regions) false 0
        (out-DraftState s).transitions ≡ [] → inside (out-DraftState s).regions ≡ [] → IsOne (state_of vn names s)
    state_is s shaped final transitions inner =
        let own : List DraftTransition = (out-DraftState s).transitions in
        let super : Bool = is_filled (out-DraftState s).regions in
        let all : Transitions V names (is_filled (out-DraftState s).regions) false 0 own = transitions_are V names (is_filled (out-DraftState s).regions) false
        0 own shaped.transitions transitions in
        of_parts V AreInner (length names) (state_of vn names s)
        (subst (AreParts V AreInner (length names)) (sym (state_out vn names s))
        (record {
          named = shaped.named;
          bare = bare_is names s final;
          regions = keep (out-DraftState s).regions inner shaped.regions;
          transition_count = (let few = all.count (omega arith) in let long = length-map own (transition_of vn names) in omega (arith, few, long));
          one_join = (let one = all.joins in omega (arith, one));
          transitions =
              subst (λ super. (i : ℕ) (t : Transition) → slice_get (map (transition_of vn names) own) i ≡ Some t
              → IsTransition features.Extended (variables_of V) (length names) super t) (same_filled (out-DraftState s).regions)
              (every_at (IsTransition features.Extended (variables_of V) (length names) (is_filled (out-DraftState s).regions))
              (map (transition_of vn names) own) all.each);
        }))

    -- what is known of the states from one place on
    pub record States (at : ℕ) (states : List DraftState) : Type 0 where
      pub count : at ≤ 256 → at + length states ≤ 256
      pub first : AreFirstBehind names at (state_names states)
      pub each : Every IsOne (map (state_of vn names) states)

    pub states_are : (at : ℕ) (states : List DraftState) → ((i : ℕ) (s : DraftState) → slice_get states i ≡ Some s → IsStateShaped AreInside s)
        → state_flaws V inside names at states ≡ [] → States at states
    states_are at [] shaped none = record { count = λ le. omega (arith, le); first = no_more_names names at; each = tt }
    states_are at (s ∷ more) shaped none =
        let name : List ℕ = (out-DraftState s).named.name in
        let from_full = none_second _ _ none in
        let from_final = none_second _ _ from_full in
        let from_own = none_second _ _ from_final in
        let from_inner = none_second _ _ from_own in
        let here : place_among names name ≡ Some at = is_first names at name (no_flaw _ _ _ (none_first _ _ none)) in
        let room : at + 1 ≤ 256 = room_for_one 256 at (no_flaw _ _ _ (none_first _ _ from_full)) in
        let rest : States (at + 1) more = states_are (at + 1) more (λ i x there. shaped (suc i) x there) (none_second _ _ from_inner) in
        record {
          count = λ le. room_for_more 256 at (length more) room rest.count;
          first = one_more_name names at name (state_names more) here rest.first;
          each = (state_is s (shaped 0 s refl) (none_first _ _ from_final) (none_first _ _ from_own) (none_first _ _ from_inner), rest.each);
        }

  -- ---- names and initial states of the states of a region

  pub state_names_same : (names : List (List ℕ)) (states : List DraftState) → map (λ (s : State). (out-State s).name) (map (state_of vn names) states)
      ≡ state_names states
  state_names_same names [] = refl
  state_names_same names (s ∷ states) =
      ap (λ n. n ∷ map (λ (s : State). (out-State s).name) (map (state_of vn names) states)) (ap (λ parts. parts.name) (state_out vn names s))
      ∙ ap (λ all. (out-DraftState s).named.name ∷ all) (state_names_same names states)

  abbrev once : Bool → ℕ
  once b = cond b 1 0

  pub initial_same : (names : List (List ℕ)) (states : List DraftState) → count_by (λ (s : State). (out-State s).is_initial) (map (state_of vn names) states)
      ≡ count_by (λ (s : DraftState). (out-DraftState s).is_initial) states
  initial_same names [] = refl
  initial_same names (s ∷ states) =
      let one : once (out-State (state_of vn names s)).is_initial ≡ once (out-DraftState s).is_initial = ap (λ parts. once parts.is_initial)
      (state_out vn names s) in
      let first = sum_by-cons (λ (z : State). cond (out-State z).is_initial 1 0) (state_of vn names s) (map (state_of vn names) states) in
      let second = sum_by-cons (λ (z : DraftState). cond (out-DraftState z).is_initial 1 0) s states in
      let more = initial_same names states in
      omega (arith, one, first, second, more)
