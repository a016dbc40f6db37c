-- Each part of a draft whose tokens are good has its place at a good token, and so has each element of what the part is.
use Rattle.std.proofs.Common.{◌≡◌, ℕ, List, [], ◌∷◌, ◌++◌, map, refl, sym, ap, subst, ◌∙◌}
use Rattle.grammar.proofs.Each.{Every}
use Rattle.sc_text.specs.declared.token.Token.{Token}
use Rattle.sc_text.specs.declared.token.TokenKind.{TokenKind}
use Rattle.sc_text.specs.declared.token.TokenKind.TheVariants as token
use Rattle.sc_text.specs.declared.drafts.parts.Named.{Named}
use Rattle.sc_text.specs.Resolved.{number_of}
use Rattle.core_charts.specs.declared.region.Effect.{Effect}
use Rattle.core_charts.specs.declared.region.Transition.{Transition}
use Rattle.core_charts.specs.Elements.{Contents, all_effects}
use Rattle.core_charts.proofs.Standing.{both, effects_append}
use Rattle.core_charts.proofs.Pieces.{in_regions, in_states, of_one_region, of_one_state, region_alone, region_parts, state_alone, state_parts}
use Rattle.chart_reader.specs.declared.text_drafts.draft.DraftEffect.{DraftEffect}
use Rattle.chart_reader.specs.declared.text_drafts.draft.DraftTransition.{DraftTransition}
use Rattle.chart_reader.specs.declared.text_drafts.draft.DraftRegion.{DraftRegion}
use Rattle.chart_reader.specs.declared.text_drafts.draft.DraftRegion.TheViews.{out-DraftRegion, out-DraftState}
use Rattle.chart_reader.specs.declared.text_drafts.draft.DraftRegion.TheFolds.{fold_out-DraftRegion, fold_out-DraftState}
use Rattle.chart_reader.specs.declared.text_drafts.draft.DraftState.{DraftState}
use Rattle.chart_reader.specs.Flaws.{state_names}
use Rattle.chart_reader.specs.Resolved.{effect_of, region_of, state_of, transition_of}
use Rattle.chart_reader.proofs.Looking as looking
use Rattle.node_sources.specs.declared.chart_places.places.PlaceRows.{PlaceRows}
use Rattle.node_sources.specs.ChartLaws.{word_of}
use Rattle.node_sources.specs.Places as place
use Rattle.node_sources.specs.Places.{all, beside, in_region, in_state, nothing, of_effects}
use Rattle.node_sources.proofs.Pairing.{Pairs, pairs_append}

module _ (Good : Token → Type 0) where
  -- a good token of this kind stands there
  abbrev pub Has : TokenKind → ℕ → Type 0
  Has k at = Good (record { kind = k; at = at })

  abbrev pub NameHas : List ℕ → ℕ → Type 0
  NameHas name at = Has (token.Name name) at

  abbrev pub TransitionHas : Transition → ℕ → Type 0
  TransitionHas t at = Has (token.Word (word_of t.kind)) at

  pub record EffectHas (variables : List (List ℕ)) (e : Effect) (at : ℕ) : Type 0 where
    pub name : List ℕ
    pub called : e.variable ≡ number_of variables name
    pub has : NameHas name at

  -- ---- parts of a draft

  abbrev pub IsNamed : Named → Type 0
  IsNamed n = NameHas n.name n.at

  abbrev pub IsEffectPut : DraftEffect → Type 0
  IsEffectPut e = IsNamed e.variable

  pub record IsTransitionPut (t : DraftTransition) : Type 0 where
    pub begins : Has (token.Word (word_of t.kind)) t.at
    pub effects : Every IsEffectPut t.effects

  -- these are the places of these elements, over variables of these names
  pub record Told (variables : List (List ℕ)) (places : PlaceRows) (own : Contents) : Type 0 where
    pub regions : Pairs NameHas places.regions own.regions
    pub states : Pairs NameHas places.states own.states
    pub transitions : Pairs TransitionHas places.transitions own.transitions
    pub effects : Pairs (EffectHas variables) places.effects (all_effects own.transitions)

  abbrev pub IsStatePut : DraftState → Type 0
  IsStatePut s = (variables states : List (List ℕ)) → Told variables (place.of_state s) (of_one_state (state_of variables states s))

  abbrev pub IsRegionPut : DraftRegion → Type 0
  IsRegionPut r = (variables : List (List ℕ)) → Told variables (place.of_region r) (of_one_region (region_of variables r))

  module _ (variables : List (List ℕ)) where
    told_both : (x y : PlaceRows) (a b : Contents) → Told variables x a → Told variables y b → Told variables (beside x y) (both a b)
    told_both x y a b h k =
        record {
          regions = pairs_append NameHas x.regions y.regions a.regions b.regions h.regions k.regions;
          states = pairs_append NameHas x.states y.states a.states b.states h.states k.states;
          transitions = pairs_append TransitionHas x.transitions y.transitions a.transitions b.transitions h.transitions k.transitions;
          effects =
              subst (Pairs (EffectHas variables) (x.effects ++ y.effects)) (sym (effects_append a.transitions b.transitions))
              (pairs_append (EffectHas variables) x.effects y.effects (all_effects a.transitions) (all_effects b.transitions) h.effects k.effects);
        }

    none_told : Told variables nothing (record { regions = []; states = []; transitions = [] })
    none_told = record { regions = tt; states = tt; transitions = tt; effects = tt }

    -- ---- transitions

    effects_told : (effects : List DraftEffect) → Every IsEffectPut effects →
        Pairs (EffectHas variables) (of_effects effects) (map (effect_of variables) effects)
    effects_told [] h = tt
    effects_told (e ∷ effects) h = (record { name = e.variable.name; called = refl; has = h.0 }, effects_told effects h.1)

    transitions_told : (states : List (List ℕ)) (own : List DraftTransition) → Every IsTransitionPut own →
        Told variables (all (map place.of_transition own))
        (record { regions = []; states = []; transitions = map (transition_of variables states) own })
    transitions_told states [] h = none_told
    transitions_told states (t ∷ own) h =
        let others = transitions_told states own h.1 in
        record {
          regions = others.regions;
          states = others.states;
          transitions = (h.0.begins, others.transitions);
          effects =
              pairs_append (EffectHas variables) (of_effects t.effects) (all (map place.of_transition own)).effects
              (map (effect_of variables) t.effects) (all_effects (map (transition_of variables states) own))
              (effects_told t.effects h.0.effects) others.effects;
        }

    -- ---- states and regions

    pub regions_told : (regions : List DraftRegion) → Every IsRegionPut regions →
        Told variables (all (map place.of_region regions)) (in_regions (map (region_of variables) regions))
    regions_told [] h = none_told
    regions_told (r ∷ regions) h =
        told_both (place.of_region r) (all (map place.of_region regions)) (of_one_region (region_of variables r))
        (in_regions (map (region_of variables) regions)) (h.0 variables) (regions_told regions h.1)

    states_told : (names : List (List ℕ)) (states : List DraftState) → Every IsStatePut states →
        Told variables (all (map place.of_state states)) (in_states (map (state_of variables names) states))
    states_told names [] h = none_told
    states_told names (s ∷ states) h =
        told_both (place.of_state s) (all (map place.of_state states)) (of_one_state (state_of variables names s))
        (in_states (map (state_of variables names) states)) (h.0 variables names) (states_told names states h.1)

    -- a state with its transitions
    alone_told : (names : List (List ℕ)) (s : DraftState) → IsNamed (out-DraftState s).named → Every IsTransitionPut (out-DraftState s).transitions →
        Told variables (beside (place.state (out-DraftState s).named.at) (all (map place.of_transition (out-DraftState s).transitions)))
        (state_alone (out-DraftState s).named.name (map (transition_of variables names) (out-DraftState s).transitions))
    alone_told names s named own =
        let others = transitions_told names (out-DraftState s).transitions own in
        record {
          regions = others.regions;
          states = (named, others.states);
          transitions = others.transitions;
          effects = others.effects;
        }

    one_region_told : (n : Named) → IsNamed n → Told variables (place.region n.at) (region_alone n.name)
    one_region_told n named = record { regions = (named, tt); states = tt; transitions = tt; effects = tt }

  pub state_put : (s : DraftState) → IsNamed (out-DraftState s).named → Every IsTransitionPut (out-DraftState s).transitions →
      Every IsRegionPut (out-DraftState s).regions → IsStatePut s
  state_put s named own inside variables names =
      let is : of_one_state (state_of variables names s)
      ≡ both (state_alone (out-DraftState s).named.name (map (transition_of variables names) (out-DraftState s).transitions))
      (in_regions (map (region_of variables) (out-DraftState s).regions)) =
      state_parts (state_of variables names s)
      ∙ ap (λ parts. both (state_alone parts.name parts.transitions) (in_regions parts.regions)) (looking.state_out variables names s) in
      subst (λ x. Told variables x (of_one_state (state_of variables names s))) (sym (fold_out-DraftState PlaceRows PlaceRows in_region in_state s))
      (subst (Told variables _) (sym is)
      (told_both variables _ _ _ _ (alone_told variables names s named own) (regions_told variables (out-DraftState s).regions inside)))

  pub region_put : (r : DraftRegion) → IsNamed (out-DraftRegion r).named → Every IsStatePut (out-DraftRegion r).states → IsRegionPut r
  region_put r named states variables =
      let names : List (List ℕ) = state_names (out-DraftRegion r).states in
      let is : of_one_region (region_of variables r)
      ≡ both (region_alone (out-DraftRegion r).named.name)
      (in_states (map (state_of variables (state_names (out-DraftRegion r).states)) (out-DraftRegion r).states)) =
      region_parts (region_of variables r) ∙ ap (λ parts. both (region_alone parts.name) (in_states parts.states)) (looking.region_out variables r) in
      subst (λ x. Told variables x (of_one_region (region_of variables r))) (sym (fold_out-DraftRegion PlaceRows PlaceRows in_region in_state r))
      (subst (Told variables _) (sym is)
      (told_both variables _ _ _ _ (one_region_told variables (out-DraftRegion r).named named)
      (states_told variables names (out-DraftRegion r).states states)))
