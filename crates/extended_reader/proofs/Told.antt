-- What is told of the flaws of some parts, one part behind the other.
use Rattle.std.proofs.Common.{◌≡◌, ℕ, ◌+◌, ◌≤◌, Some, List, ◌++◌, map, drop, length, slice_get, sym, ◌∙◌, ap}
use Rattle.sc_text.specs.declared.drafts.flaw.Flaw.{Flaw}
use Rattle.sc_text.specs.Told.{told_behind}
use Rattle.sc_text.proofs.PartsInOrder.{drop_is, drop_past}
use Rattle.sc_text.proofs.ToldInOrder.{told_both}
use Rattle.chart_reader.specs.declared.text_drafts.draft.DraftRegion.{DraftRegion}
use Rattle.chart_reader.specs.declared.text_drafts.draft.DraftRegion.TheViews.{out-DraftRegion, out-DraftState}
use Rattle.chart_reader.specs.declared.text_drafts.draft.DraftRegion.TheFolds.{fold_out-DraftRegion, fold_out-DraftState}
use Rattle.chart_reader.specs.declared.text_drafts.draft.DraftState.{DraftState}
use Rattle.chart_reader.specs.declared.text_drafts.draft.DraftTransition.{DraftTransition}
use Rattle.sc_text.specs.declared.drafts.parts.Declaration.{Declaration}
use Rattle.extended_reader.specs.Flaws.{joined, name_flaws, ways_flaws, region_step, state_step, region_inside_flaws, state_inside_flaws}

module _ {A : Type 0} (f : A → List Flaw) (parts : List A) (at : ℕ) where
  pub part_told : (x : A) (found new : List Flaw) → slice_get parts at ≡ Some x → new ≡ told_behind found (f x)
      → told_behind new (joined (map f (drop (at + 1) parts))) ≡ told_behind found (joined (map f (drop at parts)))
  part_told x found new i e =
      ap (λ g. told_behind g (joined (map f (drop (at + 1) parts)))) e
      ∙ sym (told_both found (f x) (joined (map f (drop (at + 1) parts))))
      ∙ ap (λ l. told_behind found (joined (map f l))) (sym (drop_is parts at x i))

  pub parts_over : (found : List Flaw) → length parts ≤ at → told_behind found (joined (map f (drop at parts))) ≡ found
  parts_over found le = ap (λ l. told_behind found (joined (map f l))) (drop_past parts at le)

-- ---- what is in states and regions

module _ (signals : List Declaration) where
  inside_state : (s : DraftState) → state_inside_flaws signals s ≡ name_flaws (out-DraftState s).named
      ++ (joined (map (region_inside_flaws signals) (out-DraftState s).regions) ++ ways_flaws signals (out-DraftState s).transitions)
  inside_state s = fold_out-DraftState (List Flaw) (List Flaw) region_step (state_step signals) s

  inside_region : (r : DraftRegion) → region_inside_flaws signals r ≡ name_flaws (out-DraftRegion r).named
      ++ joined (map (state_inside_flaws signals) (out-DraftRegion r).states)
  inside_region r = fold_out-DraftRegion (List Flaw) (List Flaw) region_step (state_step signals) r

  module _ (found f g : List Flaw) where
    pub state_told : (s : DraftState) (R : List DraftRegion) (T : List DraftTransition) (k : List Flaw)
        → f ≡ told_behind found (name_flaws (out-DraftState s).named) → R ≡ (out-DraftState s).regions
        → k ≡ told_behind f (joined (map (region_inside_flaws signals) R)) → T ≡ (out-DraftState s).transitions → g ≡ told_behind k (ways_flaws signals T)
        → g ≡ told_behind found (state_inside_flaws signals s)
    state_told s R T k a r b t c =
        let n : List Flaw = name_flaws (out-DraftState s).named in
        let i : List Flaw = joined (map (region_inside_flaws signals) (out-DraftState s).regions) in
        let w : List Flaw = ways_flaws signals (out-DraftState s).transitions in
        c ∙ ap (λ x. told_behind k (ways_flaws signals x)) t
        ∙ ap (λ x. told_behind x w) (b ∙ ap (λ x. told_behind f (joined (map (region_inside_flaws signals) x))) r ∙ ap (λ x. told_behind x i) a)
        ∙ sym (told_both found n (i ++ w) ∙ told_both (told_behind found n) i w)
        ∙ ap (λ x. told_behind found x) (sym (inside_state s))

    pub region_told : (r : DraftRegion) (S : List DraftState) → f ≡ told_behind found (name_flaws (out-DraftRegion r).named)
        → S ≡ (out-DraftRegion r).states → g ≡ told_behind f (joined (map (state_inside_flaws signals) S))
        → g ≡ told_behind found (region_inside_flaws signals r)
    region_told r S a s b =
        b ∙ ap (λ x. told_behind f (joined (map (state_inside_flaws signals) x))) s
        ∙ ap (λ x. told_behind x (joined (map (state_inside_flaws signals) (out-DraftRegion r).states))) a
        ∙ sym (told_both found (name_flaws (out-DraftRegion r).named) (joined (map (state_inside_flaws signals) (out-DraftRegion r).states)))
        ∙ ap (λ x. told_behind found x) (sym (inside_region r))
