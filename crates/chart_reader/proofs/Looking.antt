-- What each region and each state of a draft is, its names looked up.
use Rattle.std.proofs.Common.{◌≡◌, ℕ, List, [], ◌∷◌, map, refl, ap, ◌∙◌}
use Rattle.core_charts.specs.declared.region.Region.{Region}
use Rattle.core_charts.specs.declared.region.Region.TheOpen.{Region-F, State-F}
use Rattle.core_charts.specs.declared.region.Region.TheViews.{roll-Region, roll-State, out-Region, out-State, out-roll-Region, out-roll-State}
use Rattle.core_charts.specs.declared.region.State.{State}
use Rattle.chart_reader.specs.declared.text_drafts.draft.DraftRegion.{DraftRegion}
use Rattle.chart_reader.specs.declared.text_drafts.draft.DraftRegion.TheViews.{out-DraftRegion, out-DraftState}
use Rattle.chart_reader.specs.declared.text_drafts.draft.DraftRegion.TheFolds.{fold_out-DraftRegion, fold_out-DraftState}
use Rattle.chart_reader.specs.declared.text_drafts.draft.DraftState.{DraftState}
use Rattle.chart_reader.specs.Flaws.{state_names}
use Rattle.chart_reader.specs.Resolved.{StatePiece, transition_of, state_piece, region_over, region_of, regions_of, piece_of_state, state_of, states_of}

module _ (variables : List (List ℕ)) where
  piece_is : (s : DraftState) → piece_of_state variables s ≡ state_piece variables (record {
    is_initial = (out-DraftState s).is_initial;
    is_final = (out-DraftState s).is_final;
    named = (out-DraftState s).named;
    regions = map (region_of variables) (out-DraftState s).regions;
    transitions = (out-DraftState s).transitions;
  })
  piece_is s = fold_out-DraftState Region StatePiece (region_over variables) (state_piece variables) s

  piece_name : (s : DraftState) → (piece_of_state variables s).name ≡ (out-DraftState s).named.name
  piece_name s = ap (λ p. p.name) (piece_is s)

  piece_names : (states : List DraftState) → map (λ (p : StatePiece). p.name) (map (piece_of_state variables) states) ≡ state_names states
  piece_names [] = refl
  piece_names (s ∷ states) = ap (λ n. n ∷ map (λ (p : StatePiece). p.name) (map (piece_of_state variables) states)) (piece_name s)
      ∙ ap (λ ns. (out-DraftState s).named.name ∷ ns) (piece_names states)

  -- what a state is made of
  abbrev pub state_parts : (states : List (List ℕ)) → DraftState → State-F Region State
  state_parts states s = record {
    name = (out-DraftState s).named.name;
    is_initial = (out-DraftState s).is_initial;
    is_final = (out-DraftState s).is_final;
    regions = regions_of variables (out-DraftState s).regions;
    transitions = map (transition_of variables states) (out-DraftState s).transitions;
  }

  pub state_is : (states : List (List ℕ)) (s : DraftState) → state_of variables states s ≡ roll-State (state_parts states s)
  state_is states s = ap (λ p. p.among states) (piece_is s)

  pub state_out : (states : List (List ℕ)) (s : DraftState) → out-State (state_of variables states s) ≡ state_parts states s
  state_out states s = ap out-State (state_is states s) ∙ out-roll-State (state_parts states s)

  among_all : (names : List (List ℕ)) (states : List DraftState) → map (λ (p : StatePiece). p.among names) (map (piece_of_state variables) states)
      ≡ map (state_of variables names) states
  among_all names [] = refl
  among_all names (s ∷ states) = ap (λ all. state_of variables names s ∷ all) (among_all names states)

  -- what a region is made of
  abbrev pub region_parts : DraftRegion → Region-F Region State
  region_parts r = record {
    name = (out-DraftRegion r).named.name;
    states = states_of variables (state_names (out-DraftRegion r).states) (out-DraftRegion r).states;
  }

  pub region_is : (r : DraftRegion) → region_of variables r ≡ roll-Region (region_parts r)
  region_is r =
      let states : List DraftState = (out-DraftRegion r).states in
      let pieces : List StatePiece = map (piece_of_state variables) states in
      let name : List ℕ = (out-DraftRegion r).named.name in
      fold_out-DraftRegion Region StatePiece (region_over variables) (state_piece variables) r
      ∙ ap (λ names. roll-Region (record { name = name; states = map (λ (p : StatePiece). p.among names) pieces })) (piece_names states)
      ∙ ap (λ all. roll-Region (record { name = name; states = all })) (among_all (state_names states) states)

  pub region_out : (r : DraftRegion) → out-Region (region_of variables r) ≡ region_parts r
  region_out r = ap out-Region (region_is r) ∙ out-roll-Region (region_parts r)
