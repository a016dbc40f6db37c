-- What the regions of a draft are, on each level, where nothing is wrong with them.
use Rattle.std.proofs.Common.{◌≡◌, ℕ, zero, suc, ◌+◌, ◌≤◌, true, Some, List, [], ◌∷◌, length, map, slice_get, refl, ap, sym, subst, ◌∙◌, arith}
use Rattle.std.specs.Prelude.{nat_eq, count_by}
use Rattle.std.proofs.lemmas.Bool.Decides.{Decides-eqb}
use Rattle.std.proofs.lemmas.List.{length-map}
use Rattle.grammar.proofs.Each.{Every, every_at}
use Rattle.sc_text.specs.declared.language.Language.TheVariants as language
use Rattle.sc_text.specs.Parts.{IsNameIn, are_distinct}
use Rattle.sc_text.specs.declared.drafts.flaw.Flaw.{Flaw}
use Rattle.sc_text.specs.declared.drafts.parts.Declaration.{Declaration}
use Rattle.sc_text.specs.Flaws.{place_among, variable_names}
use Rattle.sc_text.specs.Resolved.{variables_of}
use Rattle.sc_text.proofs.Unflawed.{none_first, none_second, no_flaw, not_false}
use Rattle.sc_text.proofs.Distinct.{all_first, first_distinct, AreFirstBehind, no_more_names, one_more_name}
use Rattle.sc_text.proofs.Declared.{room_for_one, room_for_more, is_first}
use Rattle.core_charts.specs.declared.features.Features.TheVariants as features
use Rattle.core_charts.specs.declared.region.Region.{Region}
use Rattle.core_charts.specs.declared.region.Region.TheOpen.{Region-F}
use Rattle.core_charts.specs.declared.region.Region.TheViews.{out-Region, out-State}
use Rattle.core_charts.specs.declared.region.State.{State}
use Rattle.core_charts.specs.Rules.{IsState, IsRegion, AreRegions}
use Rattle.chart_reader.specs.declared.text_drafts.draft.DraftRegion.{DraftRegion}
use Rattle.chart_reader.specs.declared.text_drafts.draft.DraftRegion.TheViews.{out-DraftRegion, out-DraftState}
use Rattle.chart_reader.specs.declared.text_drafts.draft.DraftState.{DraftState}
use Rattle.chart_reader.specs.Flaws.{state_names, region_names, state_flaws, initial_flaws, region_flaws, nested_flaws}
use Rattle.chart_reader.specs.Shape.{IsRegionShaped, AreRegionsShaped}
use Rattle.chart_reader.specs.Resolved.{region_of, regions_of, state_of}
use Rattle.chart_reader.proofs.Looking.{region_out}
use Rattle.chart_reader.proofs.KeptStates.{States, states_are, state_names_same, initial_same}

-- what a region of these parts keeps
record AreParts (V : List Declaration) (AreInner : List Region → Type 0) (parts : Region-F Region State) : Type 0 where
  pub named : IsNameIn language.Chart parts.name
  pub state_count : length parts.states ≤ 256
  pub one_initial : count_by (λ (s : State). (out-State s).is_initial) parts.states ≡ 1
  pub distinct : are_distinct (map (λ (s : State). (out-State s).name) parts.states) ≡ true
  pub states : (i : ℕ) (s : State) → slice_get parts.states i ≡ Some s → IsState features.Extended (variables_of V) AreInner (length parts.states) s

of_parts : (V : List Declaration) (AreInner : List Region → Type 0) (r : Region) → AreParts V AreInner (out-Region r)
    → IsRegion features.Extended (variables_of V) AreInner r
of_parts V AreInner r h = record {
  named = h.named;
  state_count = h.state_count;
  one_initial = h.one_initial;
  distinct = h.distinct;
  states = h.states;
}

module _ (V : List Declaration) where
  abbrev vn : List (List ℕ)
  vn = variable_names V

  module _ (inside : List DraftRegion → List Flaw) (AreInside : List DraftRegion → Type 0) (AreInner : List Region → Type 0)
      (keep : (regions : List DraftRegion) → inside regions ≡ [] → AreInside regions → AreInner (map (region_of vn) regions)) where
    abbrev IsOne : Region → Type 0
    IsOne = IsRegion features.Extended (variables_of V) AreInner

    region_is : (r : DraftRegion) → IsRegionShaped AreInside r → initial_flaws r ≡ []
        → state_flaws V inside (state_names (out-DraftRegion r).states) 0 (out-DraftRegion r).states ≡ [] → IsOne (region_of vn r)
    region_is r shaped initial none =
        let states : List DraftState = (out-DraftRegion r).states in
        let names : List (List ℕ) = state_names (out-DraftRegion r).states in
        let inner : List State = map (state_of vn (state_names (out-DraftRegion r).states)) (out-DraftRegion r).states in
        let all : States V inside AreInside AreInner keep names 0 states = states_are V inside AreInside AreInner keep names 0 states shaped.states none in
        let long : length inner ≡ length states = length-map states (state_of vn names) in
        let named : length names ≡ length states = length-map states (λ (s : DraftState). (out-DraftState s).named.name) in
        let one : nat_eq (count_by (λ (s : DraftState). (out-DraftState s).is_initial) states) 1 ≡ true = not_false _ (no_flaw _ _ _ initial) in
        of_parts V AreInner (region_of vn r)
        (subst (AreParts V AreInner) (sym (region_out vn r))
        (record {
          named = shaped.named;
          state_count = (let few = all.count (omega arith) in omega (arith, few, long));
          one_initial = initial_same V names states ∙ (Decides-eqb _ _).0 one;
          distinct = ap are_distinct (state_names_same V names states) ∙ first_distinct names (all_first names all.first);
          states =
              subst (λ n. (i : ℕ) (s : State) → slice_get inner i ≡ Some s → IsState features.Extended (variables_of V) AreInner n s) (named ∙ sym long)
              (every_at (IsState features.Extended (variables_of V) AreInner (length names)) inner all.each);
        }))

    -- what is known of the regions of a superstate from one place on
    record Regions (names : List (List ℕ)) (at : ℕ) (regions : List DraftRegion) : Type 0 where
      pub count : at ≤ 63 → at + length regions ≤ 63
      pub first : AreFirstBehind names at (region_names regions)
      pub each : Every IsOne (map (region_of vn) regions)

    regions_are : (names : List (List ℕ)) (at : ℕ) (regions : List DraftRegion)
        → ((i : ℕ) (r : DraftRegion) → slice_get regions i ≡ Some r → IsRegionShaped AreInside r) → region_flaws V inside names at regions ≡ []
        → Regions names at regions
    regions_are names at [] shaped none = record { count = λ le. omega (arith, le); first = no_more_names names at; each = tt }
    regions_are names at (r ∷ more) shaped none =
        let name : List ℕ = (out-DraftRegion r).named.name in
        let from_full = none_second _ _ none in
        let from_initial = none_second _ _ from_full in
        let from_states = none_second _ _ from_initial in
        let here : place_among names name ≡ Some at = is_first names at name (no_flaw _ _ _ (none_first _ _ none)) in
        let room : at + 1 ≤ 63 = room_for_one 63 at (no_flaw _ _ _ (none_first _ _ from_full)) in
        let rest : Regions names (at + 1) more = regions_are names (at + 1) more (λ i x there. shaped (suc i) x there) (none_second _ _ from_states) in
        record {
          count = λ le. room_for_more 63 at (length more) room rest.count;
          first = one_more_name names at name (region_names more) here rest.first;
          each = (region_is r (shaped 0 r refl) (none_first _ _ from_initial) (none_first _ _ from_states), rest.each);
        }

  region_names_same : (regions : List DraftRegion) → map (λ (r : Region). (out-Region r).name) (map (region_of vn) regions) ≡ region_names regions
  region_names_same [] = refl
  region_names_same (r ∷ regions) =
      ap (λ n. n ∷ map (λ (r : Region). (out-Region r).name) (map (region_of vn) regions)) (ap (λ parts. parts.name) (region_out vn r))
      ∙ ap (λ all. (out-DraftRegion r).named.name ∷ all) (region_names_same regions)

  -- ---- levels

  pub levels_keep : (levels : ℕ) (regions : List DraftRegion) → nested_flaws V levels regions ≡ [] → AreRegionsShaped levels regions
      → AreRegions features.Extended (variables_of V) levels (regions_of vn regions)
  levels_keep zero regions none shaped = ap (map (region_of vn)) shaped
  levels_keep (suc levels) regions none shaped =
      let all : Regions (nested_flaws V levels) (AreRegionsShaped levels) (AreRegions features.Extended (variables_of V) levels) (levels_keep levels)
      (region_names regions) 0 regions =
      regions_are (nested_flaws V levels) (AreRegionsShaped levels) (AreRegions features.Extended (variables_of V) levels) (levels_keep levels)
      (region_names regions) 0 regions shaped none in
      record {
        count = (let few = all.count (omega arith) in let long = length-map regions (region_of vn) in omega (arith, few, long));
        distinct = ap are_distinct (region_names_same regions) ∙ first_distinct (region_names regions) (all_first (region_names regions) all.first);
        each = every_at (IsRegion features.Extended (variables_of V) (AreRegions features.Extended (variables_of V) levels))
            (map (region_of vn) regions) all.each;
      }
