-- What regions and states give of the places of targets without regions.
use Rattle.std.proofs.Common.{◌≡◌, ℕ, Bool, true, false, not, Option, List, [], ◌∷◌, ◌++◌, map, refl, sym, ◌∙◌, ap, if◌then◌else◌}
use Rattle.std.proofs.lemmas.List.{append_assoc, append-nil}
use Rattle.chart_reader.specs.declared.text_drafts.draft.DraftTransition.{DraftTransition}
use Rattle.chart_reader.specs.declared.text_drafts.draft.DraftRegion.{DraftRegion}
use Rattle.chart_reader.specs.declared.text_drafts.draft.DraftRegion.TheViews.{out-DraftRegion, out-DraftState}
use Rattle.chart_reader.specs.declared.text_drafts.draft.DraftRegion.TheFolds.{fold_out-DraftRegion, fold_out-DraftState}
use Rattle.chart_reader.specs.declared.text_drafts.draft.DraftState.{DraftState}
use Rattle.chart_reader.specs.Flaws.{is_filled}
use Rattle.extended_reader.specs.Targets.{StateTargets, target_among, simple_name, simple_names}
use Rattle.extended_reader.specs.Targets.{places_in, region_step, state_step, region_targets, state_targets}
use Rattle.extended_reader.specs.Targets.{simple_targets}

pub region_is : (r : DraftRegion) → region_targets r
    ≡ places_in (simple_names (map state_targets (out-DraftRegion r).states)) (map state_targets (out-DraftRegion r).states)
region_is r = fold_out-DraftRegion (List (Option ℕ)) StateTargets region_step state_step r

module _ (s : DraftState) where
  piece_is : state_targets s ≡ state_step (record {
    is_initial = (out-DraftState s).is_initial;
    is_final = (out-DraftState s).is_final;
    named = (out-DraftState s).named;
    regions = map region_targets (out-DraftState s).regions;
    transitions = (out-DraftState s).transitions;
  })
  piece_is = fold_out-DraftState (List (Option ℕ)) StateTargets region_step state_step s

  pub state_is : (simple : List (List ℕ)) → (state_targets s).places simple
      ≡ simple_targets (out-DraftState s).regions ++ map (target_among simple) (out-DraftState s).transitions
  state_is simple = ap (λ p. p.places simple) piece_is

  pub state_put : (simple : List (List ℕ)) (R : List DraftRegion) (T : List DraftTransition) (found one new : List (Option ℕ))
      → R ≡ (out-DraftState s).regions → one ≡ found ++ simple_targets R → T ≡ (out-DraftState s).transitions
      → new ≡ one ++ map (target_among simple) T → new ≡ found ++ (state_targets s).places simple
  state_put simple R T found one new r a t b =
      b ∙ ap (λ x. one ++ map (target_among simple) x) t
      ∙ ap (λ x. x ++ map (target_among simple) (out-DraftState s).transitions) (a ∙ ap (λ x. found ++ simple_targets x) r)
      ∙ append_assoc found (simple_targets (out-DraftState s).regions) (map (target_among simple) (out-DraftState s).transitions)
      ∙ ap (λ x. found ++ x) (sym (state_is simple))

  filled : (regions : List DraftRegion) → is_filled (map region_targets regions) ≡ is_filled regions
  filled [] = refl
  filled (r ∷ regions) = refl

  name_is : (state_targets s).name ≡ (out-DraftState s).named.name
  name_is = ap (λ p. p.name) piece_is

  simple_is : (state_targets s).is_simple ≡ not (is_filled (out-DraftState s).regions)
  simple_is = ap (λ p. p.is_simple) piece_is ∙ ap not (filled (out-DraftState s).regions)

  one_as : (b : Bool) → not (is_filled (out-DraftState s).regions) ≡ b
      → simple_name (state_targets s) ≡ (if b then (out-DraftState s).named.name ∷ [] else [])
  one_as b e =
      ap (λ c. if c then (state_targets s).name ∷ [] else []) (simple_is ∙ e)
      ∙ ap (λ n. if b then n ∷ [] else []) name_is

  module _ (names new : List (List ℕ)) where
    pub name_put : not (is_filled (out-DraftState s).regions) ≡ true → new ≡ names ++ (out-DraftState s).named.name ∷ []
        → new ≡ names ++ simple_name (state_targets s)
    name_put e f = f ∙ ap (λ l. names ++ l) (sym (one_as true e))

    pub none_put : not (is_filled (out-DraftState s).regions) ≡ false → new ≡ names → new ≡ names ++ simple_name (state_targets s)
    none_put e f = f ∙ sym (append-nil names) ∙ ap (λ l. names ++ l) (sym (one_as false e))
