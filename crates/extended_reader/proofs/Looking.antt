-- What each region and each state of a draft is, its names looked up, and which rows it leaves.
use Rattle.std.proofs.Common.{◌≡◌, ℕ, true, List, [], ◌∷◌, ◌++◌, length, map, codes, refl, ap, sym, ◌∙◌}
use Rattle.std.proofs.lemmas.List.{append-nil, length-map}
use Rattle.chart_reader.specs.declared.text_drafts.draft.DraftRegion.{DraftRegion}
use Rattle.chart_reader.specs.declared.text_drafts.draft.DraftRegion.TheViews.{out-DraftRegion, out-DraftState}
use Rattle.chart_reader.specs.declared.text_drafts.draft.DraftRegion.TheFolds.{fold_out-DraftRegion, fold_out-DraftState}
use Rattle.chart_reader.specs.declared.text_drafts.draft.DraftState.{DraftState}
use Rattle.chart_reader.specs.Flaws.{state_names}
use Rattle.chart_reader.specs.Narrow.{AreNarrow}
use Rattle.chart_reader.proofs.Inner.{none_narrow}
use Rattle.extended_reader.specs.declared.text_drafts.draft.DraftRows.{DraftRows}
use Rattle.extended_charts.specs.declared.extended.ExtendedRegion.{ExtendedRegion}
use Rattle.extended_charts.specs.declared.extended.ExtendedState.{ExtendedState}
use Rattle.extended_charts.specs.declared.extended.ExtendedRegion.TheOpen.{ExtendedRegion-F, ExtendedState-F}
use Rattle.extended_charts.specs.declared.extended.ExtendedRegion.TheViews.{roll-ExtendedRegion, roll-ExtendedState}
use Rattle.extended_reader.specs.Resolved.{RegionPiece, StatePiece, region_step, state_step, region_of, state_of, actions_of, durings_of, first_actions}
use Rattle.extended_reader.specs.Resolved.{behind_state, behind_transitions, behind_regions, behind_states, all_transitions, all_regions, all_states}

pub as_many_names : (states : List DraftState) → length (state_names states) ≡ length states
as_many_names states = length-map states (λ s. (out-DraftState s).named.name)

module _ (names : List (List ℕ)) where
  piece_is : (s : DraftState) → state_of names s ≡ state_step names (record {
    is_initial = (out-DraftState s).is_initial;
    is_final = (out-DraftState s).is_final;
    named = (out-DraftState s).named;
    regions = map (region_of names) (out-DraftState s).regions;
    transitions = (out-DraftState s).transitions;
  })
  piece_is s = fold_out-DraftState RegionPiece StatePiece (region_step names) (state_step names) s

  abbrev pub left_inside : DraftState → DraftRows → DraftRows
  left_inside s rows = behind_regions (behind_state rows) (map (region_of names) (out-DraftState s).regions)

  -- what a state is made of
  abbrev pub state_parts : (states : List (List ℕ)) → DraftState → DraftRows → ExtendedState-F ExtendedRegion ExtendedState
  state_parts states s rows = record {
    name = (out-DraftState s).named.name;
    is_own = true;
    is_initial = (out-DraftState s).is_initial;
    is_final = (out-DraftState s).is_final;
    entry = actions_of (codes "entry") names (first_actions rows.entries);
    exit = actions_of (codes "exit") names (first_actions rows.entries);
    during = durings_of names (first_actions rows.entries);
    regions = all_regions (behind_state rows) (map (region_of names) (out-DraftState s).regions);
    transitions = all_transitions names states (left_inside s rows) (out-DraftState s).transitions;
  }

  pub state_is : (states : List (List ℕ)) (s : DraftState) (rows : DraftRows)
      → (state_of names s).made states rows ≡ roll-ExtendedState (state_parts states s rows)
  state_is states s rows = ap (λ p. p.made states rows) (piece_is s)

  pub state_leaves : (s : DraftState) (rows : DraftRows)
      → (state_of names s).behind rows ≡ behind_transitions (left_inside s rows) (out-DraftState s).transitions
  state_leaves s rows = ap (λ p. p.behind rows) (piece_is s)

  piece_names : (states : List DraftState) → map (λ (p : StatePiece). p.name) (map (state_of names) states) ≡ state_names states
  piece_names [] = refl
  piece_names (s ∷ states) = ap (λ n. n ∷ map (λ (p : StatePiece). p.name) (map (state_of names) states)) (ap (λ p. p.name) (piece_is s))
      ∙ ap (λ ns. (out-DraftState s).named.name ∷ ns) (piece_names states)

  region_piece_is : (r : DraftRegion) → region_of names r ≡ region_step names (record {
    named = (out-DraftRegion r).named;
    states = map (state_of names) (out-DraftRegion r).states;
  })
  region_piece_is r = fold_out-DraftRegion RegionPiece StatePiece (region_step names) (state_step names) r

  -- what a region is made of
  abbrev pub region_parts : DraftRegion → DraftRows → ExtendedRegion-F ExtendedRegion ExtendedState
  region_parts r rows = record {
    name = (out-DraftRegion r).named.name;
    states = all_states (state_names (out-DraftRegion r).states) rows (map (state_of names) (out-DraftRegion r).states);
  }

  pub region_is : (r : DraftRegion) (rows : DraftRows) → (region_of names r).made rows ≡ roll-ExtendedRegion (region_parts r rows)
  region_is r rows =
      ap (λ p. p.made rows) (region_piece_is r)
      ∙ ap (λ own. roll-ExtendedRegion (record {
        name = (out-DraftRegion r).named.name;
        states = all_states own rows (map (state_of names) (out-DraftRegion r).states);
      })) (piece_names (out-DraftRegion r).states)

-- none are put where none may stand, and none of the rows are taken
module _ (names : List (List ℕ)) (levels : ℕ) (texts : List DraftRegion) (rows : DraftRows) (are : AreNarrow levels texts) (none : levels ≡ 0) where
  pub none_put : (made : List ExtendedRegion) → made ≡ made ++ all_regions rows (map (region_of names) texts)
  none_put made = sym (append-nil made) ∙ ap (λ x. made ++ all_regions rows (map (region_of names) x)) (sym (none_narrow levels texts are none))

  pub none_taken : rows ≡ behind_regions rows (map (region_of names) texts)
  none_taken = ap (λ x. behind_regions rows (map (region_of names) x)) (sym (none_narrow levels texts are none))
