-- What the grammar of extended charts gives of each draft.
use Rattle.std.proofs.Common.{◌≡◌, ◌≢◌, ℕ, zero, suc, ◌+◌, Bool, ◌&&◌, List, [], ◌∷◌, ◌++◌, Option, Some, None, length, map, refl, sym, ◌∙◌, ap}
use Rattle.std.specs.List.{list_all}
use Rattle.std.proofs.lemmas.List.{length-append}
use Rattle.std.proofs.lemmas.List.Folds.{list_all-append}
use Rattle.grammar.proofs.Each.{Every, OfIt, every_at, every_map, each_seq, each_either, each_maybe, each_many, each_made, each_headed, each_barred, each_as}
use Rattle.sc_text.specs.declared.language.Language.TheVariants as language
use Rattle.sc_text.specs.declared.operation.TextOperation.TheVariants as text
use Rattle.sc_text.specs.Writable.{is_writable_operation}
use Rattle.sc_text.specs.Phrases.{Phrase}
use Rattle.sc_text.specs.Expression.{expression}
use Rattle.sc_text.proofs.WellTokens.{tokens_well}
use Rattle.sc_text.proofs.EachPart.{each_after, each_before}
use Rattle.sc_text.proofs.WritablePhrases.{CanWrite, expression_writes}
use Rattle.sc_text.specs.declared.drafts.parts.Named.{Named}
use Rattle.chart_reader.specs.declared.text_drafts.draft.DraftTransition.{DraftTransition}
use Rattle.chart_reader.specs.declared.text_drafts.draft.DraftRegion.{DraftRegion}
use Rattle.chart_reader.specs.declared.text_drafts.draft.DraftRegion.TheViews.{out-roll-DraftRegion, out-roll-DraftState}
use Rattle.chart_reader.specs.declared.text_drafts.draft.DraftRegion.TheFolds.{fold_out-DraftRegion, fold_out-DraftState}
use Rattle.chart_reader.specs.declared.text_drafts.draft.DraftState.{DraftState}
use Rattle.chart_reader.specs.Draft.{state_of, region_of}
use Rattle.chart_reader.specs.ChartText.{Grows, last_name, placed}
use Rattle.sc_text.specs.DraftParts.{or_none}
use Rattle.chart_reader.specs.Shape.{IsWritable, IsTransitionShaped, IsStateShaped, IsRegionShaped, AreRegionsShaped}
use Rattle.chart_reader.proofs.ShapedDrafts.{EachChart, IsNamed, each_any, name_kept, of_it, trigger_kept, moment_kept}
use Rattle.chart_reader.proofs.ShapedDrafts.{listed_kept, none_shaped, state_shaped, region_shaped, first_there}
use Rattle.extended_reader.specs.declared.text_drafts.draft.DraftEntry.{DraftEntry}
use Rattle.extended_reader.specs.declared.text_drafts.draft.DraftWay.{DraftWay}
use Rattle.extended_reader.specs.declared.text_drafts.draft.DraftRows.{DraftRows}
use Rattle.extended_reader.specs.declared.text_drafts.draft.ExtendedDraft.{ExtendedDraft}
use Rattle.extended_reader.specs.declared.text_drafts.draft.ItemBody.{ItemBody}
use Rattle.extended_reader.specs.declared.text_drafts.draft.EffectEnd.{EffectEnd}
use Rattle.extended_reader.specs.declared.text_drafts.draft.EffectEnd.TheVariants as ends
use Rattle.extended_reader.specs.Draft.{StateBody, typed_body, signal_body, plain_item, worded_with, worded_item, effect_with, ended, all_rows, gathered}
use Rattle.extended_reader.specs.Draft.{parted, body_of}
use Rattle.extended_reader.specs.Draft.{state_with, region_with, draft_of}
use Rattle.extended_reader.specs.ExtendedText.{typed, signalled, bare_signal, plain_body, worded_body, plain, worded, item, to_value, to_name}
use Rattle.extended_reader.specs.ExtendedText.{combining, to_combination, combined, becoming, emitting, effect_end, effect, next_effect, some_effects}
use Rattle.extended_reader.specs.ExtendedText.{effects, outcome, termination, tested}
use Rattle.extended_reader.specs.ExtendedText.{transition, transitions, leaving, Inner, NoMore, Nested, rowed, bare, nested, inside}
use Rattle.extended_reader.specs.ExtendedText.{acting, body, state, region, within, parts, extended, extended_text}
use Rattle.extended_reader.specs.Comments.{without_comments}
use Rattle.extended_reader.proofs.WellKept.{plain_is_well}
use Rattle.extended_reader.specs.Reading.{IsExtendedDraft}
use Rattle.extended_reader.specs.Shape.{total, in_states, state_count, transition_count, states_in_region, states_in_state, transitions_in_region}
use Rattle.extended_reader.specs.Shape.{transitions_in_state, IsExtendedShaped}

-- ---- parts with rows beside them

-- the rows are as many as is counted
abbrev Fit : {A : Type 0} → (A → ℕ) → (A → ℕ) → A → DraftRows → Type 0
Fit f g x r = (length r.entries ≡ f x) × (length r.ways ≡ g x)

abbrev AllFit : {A : Type 0} → (A → ℕ) → (A → ℕ) → List A → DraftRows → Type 0
AllFit f g xs r = (length r.entries ≡ total (map f xs)) × (length r.ways ≡ total (map g xs))

both_lengths : {X : Type 0} (xs ys : List X) (m n : ℕ) → length xs ≡ m → length ys ≡ n → length (xs ++ ys) ≡ m + n
both_lengths xs ys m n e f = length-append xs ys ∙ ap (λ k. k + length ys) e ∙ ap (λ k. m + k) f

module _ {A : Type 0} (f g : A → ℕ) where
  gathered_fit : (xs : List (A × DraftRows)) → Every (λ x. Fit f g x.0 x.1) xs → AllFit f g (map (λ x. x.0) xs) (all_rows (map (λ x. x.1) xs))
  gathered_fit [] e = (refl, refl)
  gathered_fit (x ∷ xs) e =
      let rest = gathered_fit xs e.1 in
      (both_lengths x.1.entries _ _ _ e.0.0 rest.0, both_lengths x.1.ways _ _ _ e.0.1 rest.1)

  module _ (P : A → Type 0) where
    firsts : (xs : List (A × DraftRows)) → Every (λ x. P x.0 × Fit f g x.0 x.1) xs → Every (λ x. P x.0) xs
    firsts [] e = tt
    firsts (x ∷ xs) e = (e.0.0, firsts xs e.1)

    seconds : (xs : List (A × DraftRows)) → Every (λ x. P x.0 × Fit f g x.0 x.1) xs → Every (λ x. Fit f g x.0 x.1) xs
    seconds [] e = tt
    seconds (x ∷ xs) e = (e.0.1, seconds xs e.1)

    abbrev Kept : A × DraftRows → Type 0
    Kept x = P x.0 × Fit f g x.0 x.1

    abbrev AllKept : List A × DraftRows → Type 0
    AllKept x = Every P x.0 × AllFit f g x.0 x.1

    all_kept : (xs : List (A × DraftRows)) → Every Kept xs → AllKept (gathered xs)
    all_kept xs e = (every_map P (λ x. x.0) xs (firsts xs e), gathered_fit xs (seconds xs e))

-- ---- transitions

-- what an effect ends with can be written
abbrev EndKept : EffectEnd → Type 0
EndKept (ends.Value v) = IsWritable v
EndKept (ends.Combined c) = IsWritable c.operand
EndKept (ends.Name n) = Unit {0}

both_written : (p q : Phrase) → CanWrite p → CanWrite q → CanWrite (p ++ q)
both_written p q a b =
    list_all-append is_writable_operation p q ∙ ap (λ x. x && list_all is_writable_operation q) a ∙ b

with_kept : (n : Named) (x : EffectEnd) → EndKept x → IsWritable (effect_with n x).value
with_kept n (ends.Value v) h = h
with_kept n (ends.Combined c) h = both_written c.operand.operations (text.Binary c.operator ∷ []) h refl
with_kept word (ends.Name n) h = refl

module _ (e : Grows Phrase) (w : EachChart e CanWrite) where
  placed_kept : EachChart (placed e) IsWritable
  unfolding placed
  placed_kept = each_made _ _ _ _ _ IsWritable (each_headed _ _ _ w) (λ x h. h)

  effect_kept : EachChart (effect e) (λ x. IsWritable x.value)
  unfolding effect effect_end becoming combined combining emitting
  effect_kept =
      each_made _ _ (λ x. effect_with x.0 x.1) _ _ (λ x. IsWritable x.value)
      (each_seq _ _ _ _ _ _ (each_any _)
      (each_either _ _ _ _ (each_made _ _ to_value _ _ EndKept (each_after _ _ _ placed_kept) (λ x h. h))
      (each_either _ _ _ _
      (each_made _ _ to_combination _ _ EndKept
      (each_made _ _ _ _ _ (λ c. IsWritable c.operand) (each_seq _ _ _ _ _ _ (each_any _) (each_seq _ _ _ _ _ _ (each_any _) placed_kept)) (λ x h. h.1.1))
      (λ x h. h))
      (each_made _ _ to_name _ _ EndKept (each_any _) (λ x h. tt)))))
      (λ x h. with_kept x.0 x.1 h.1)

  none_or_all : {A : Type 0} (P : A → Type 0) (xs : Option (List A)) → OfIt (Every P) xs → Every P (or_none xs)
  none_or_all P None h = tt
  none_or_all P (Some xs) h = h

  outcome_kept : EachChart (outcome e) (λ x. Every (λ f. IsWritable f.value) x.0)
  unfolding outcome effects some_effects next_effect
  outcome_kept =
      each_as _ _ _ (λ x. Every (λ f. IsWritable f.value) x.0)
      (each_seq _ _ _ _ _ _
      (each_made _ _ _ _ _ (Every (λ x. IsWritable x.value))
      (each_maybe _ _ _ (each_after _ _ _ (listed_kept e w _ _ _ effect_kept (each_after _ _ _ effect_kept)))) (λ xs h. none_or_all _ xs h))
      (each_any _))
      (λ x h. h.0)

  termination_kept : EachChart (termination e) (λ x. IsTransitionShaped x.0)
  unfolding termination
  termination_kept =
      each_made _ _ (λ x. ended x.0 x.1.0 x.1.1) _ _ (λ x. IsTransitionShaped x.0)
      (each_seq _ _ _ _ _ _ (each_any _) (each_seq _ _ _ _ _ _ (each_any _) outcome_kept))
      (λ x h. record {
        plain_join = λ j. (refl, refl);
        trigger = of_it e w None tt;
        effects = every_at (λ f. IsWritable f.value) x.1.1.0 h.1.1;
      })

  tested_kept : EachChart (tested e) (λ x. IsTransitionShaped x.0)
  unfolding tested
  tested_kept =
      each_made _ _ _ _ _ (λ x. IsTransitionShaped x.0)
      (each_seq _ _ _ _ _ _ (moment_kept e w) (each_seq _ _ _ _ _ _ (each_any _) (each_seq _ _ _ _ _ _ (trigger_kept e w) outcome_kept)))
      (λ x h. record {
        plain_join = λ j. absurd (h.0 j);
        trigger = of_it e w x.1.1.0 h.1.1.0;
        effects = every_at _ x.1.1.1.0 h.1.1.1;
      })

  same_length : {A B : Type 0} (xs : List (A × B)) → length (map (λ x. x.1) xs) ≡ length (map (λ x. x.0) xs)
  same_length [] = refl
  same_length (x ∷ xs) = ap suc (same_length xs)

  abbrev WaysKept : List DraftTransition × List DraftWay → Type 0
  WaysKept x = Every IsTransitionShaped x.0 × (length x.1 ≡ length x.0)

  leaving_kept : EachChart (leaving e) WaysKept
  unfolding leaving transitions transition
  leaving_kept =
      each_before _ _ _
      (each_made _ _ parted _ _ WaysKept (each_many _ _ _ (each_either _ _ _ _ termination_kept tested_kept))
      (λ xs h. (every_map IsTransitionShaped (λ x. x.0) xs h, same_length xs)))

  -- ---- states and regions

  abbrev RegionKept : ℕ → DraftRegion × DraftRows → Type 0
  RegionKept n = Kept states_in_region transitions_in_region (IsRegionShaped (AreRegionsShaped n))

  abbrev StateKept : ℕ → DraftState × DraftRows → Type 0
  StateKept n = Kept states_in_state transitions_in_state (IsStateShaped (AreRegionsShaped n))

  -- what is in a state
  abbrev BodyKept : ℕ → StateBody → Type 0
  BodyKept n b =
      AreRegionsShaped n b.regions × AllFit states_in_region transitions_in_region b.regions b.rows × WaysKept (b.transitions, b.ways)

  data Fits : ℕ → Inner → Type 1 where
    none_more : Fits zero NoMore
    in_more : (n : ℕ) (r : Grows (DraftRegion × DraftRows)) → EachChart r (RegionKept n) → Fits (suc n) (Nested r)

  bare_kept : (n : ℕ) → EachChart (bare e) (BodyKept n)
  unfolding bare
  bare_kept n = each_made _ _ _ _ _ (BodyKept n) leaving_kept (λ ts h. (none_shaped e w n, (refl, refl), h))

  rowed_kept : {A : Type 0} (f g : A → ℕ) (P : A → Type 0) (r : Grows (A × DraftRows)) → EachChart r (Kept f g P) → EachChart (rowed r) (AllKept f g P)
  rowed_kept f g P r k = each_made _ _ gathered _ _ (AllKept f g P) (listed_kept e w r r (Kept f g P) k k) (all_kept f g P)

  inside_kept : (n : ℕ) (i : Inner) → Fits n i → EachChart (inside e i) (BodyKept n)
  unfolding inside nested
  inside_kept n i none_more = each_barred _ _ _ _ (bare_kept zero)
  inside_kept n i (in_more m r a) =
      each_either _ _ _ _
      (each_made _ _ (λ x. body_of x.0 x.1) _ _ (BodyKept (suc m))
      (each_seq _ _ _ _ _ _ (rowed_kept states_in_region transitions_in_region (IsRegionShaped (AreRegionsShaped m)) r a) leaving_kept)
      (λ x h. (every_at _ x.0.0 h.0.0, h.0.1, h.1)))
      (bare_kept (suc m))

  body_kept : (n : ℕ) (i : Inner) → Fits n i → EachChart (body e i) (λ x. BodyKept n x.1)
  unfolding body acting
  body_kept n i f =
      each_either _ _ _ _ (each_made _ _ _ _ _ (λ x. BodyKept n x.1) (each_any _) (λ t h. (none_shaped e w n, (refl, refl), (tt, refl))))
      (each_after _ _ _
      (each_as _ _ _ (λ x. BodyKept n x.1) (each_seq _ _ _ _ _ _ (each_any _) (inside_kept n i f)) (λ x h. h.1)))

  state_fits : (n : ℕ) (is_initial is_final : Bool) (called : Named) (own : List DraftEntry) (b : StateBody) → IsNamed called → BodyKept n b
      → StateKept n (state_with is_initial is_final called (own, b))
  state_fits n is_initial is_final called own b h k =
      let s : DraftState = state_of is_initial is_final called (b.regions, b.transitions) in
      let is =
      out-roll-DraftState (record { is_initial = is_initial; is_final = is_final; named = called; regions = b.regions; transitions = b.transitions }) in
      let states : states_in_state s ≡ suc (total (map states_in_region b.regions)) =
      fold_out-DraftState ℕ ℕ in_states state_count s ∙ ap (λ o. suc (total (map states_in_region o.regions))) is in
      let ways : transitions_in_state s ≡ total (map transitions_in_region b.regions) + length b.transitions =
      fold_out-DraftState ℕ ℕ in_states transition_count s ∙ ap (λ o. total (map transitions_in_region o.regions) + length o.transitions) is in (
        state_shaped e w n is_initial is_final called (b.regions, b.transitions) h (k.0, k.2.0),
        (ap suc k.1.0 ∙ sym states, both_lengths b.rows.ways b.ways _ _ k.1.1 k.2.1 ∙ sym ways),
      )

  state_kept : (n : ℕ) (i : Inner) → Fits n i → EachChart (state e i) (StateKept n)
  unfolding state
  state_kept n i f =
      each_made _ _ (λ x. state_with x.0 x.1.0 x.1.1.0 x.1.1.1) _ _ (StateKept n)
      (each_seq _ _ _ _ _ _ (each_any _)
      (each_seq _ _ _ _ _ _ (each_any _) (each_seq _ _ _ _ _ _ (each_after _ _ _ name_kept) (body_kept n i f))))
      (λ x h. state_fits n x.0 x.1.0 x.1.1.0 x.1.1.1.0 x.1.1.1.1 h.1.1.0 h.1.1.1)

  region_fits : (n : ℕ) (called : Named) (x : List DraftState × DraftRows) → IsNamed called
      → AllKept states_in_state transitions_in_state (IsStateShaped (AreRegionsShaped n)) x → RegionKept n (region_with called x)
  region_fits n called x h k =
      let r : DraftRegion = region_of called x.0 in
      let is = out-roll-DraftRegion (record { named = called; states = x.0 }) in
      let states : states_in_region r ≡ total (map states_in_state x.0) =
      fold_out-DraftRegion ℕ ℕ in_states state_count r ∙ ap (λ o. total (map states_in_state o.states)) is in
      let ways : transitions_in_region r ≡ total (map transitions_in_state x.0) =
      fold_out-DraftRegion ℕ ℕ in_states transition_count r ∙ ap (λ o. total (map transitions_in_state o.states)) is in
      (region_shaped e w n called x.0 h k.0, (k.1.0 ∙ sym states, k.1.1 ∙ sym ways))

  region_kept : (n : ℕ) (i : Inner) → Fits n i → EachChart (region e i) (RegionKept n)
  unfolding region
  region_kept n i f =
      each_made _ _ (λ x. region_with x.0 x.1) _ _ (RegionKept n)
      (each_seq _ _ _ _ _ _ (each_after _ _ _ name_kept)
      (each_after _ _ _
      (each_before _ _ _
      (rowed_kept states_in_state transitions_in_state (IsStateShaped (AreRegionsShaped n)) (state e i) (state_kept n i f)))))
      (λ x h. region_fits n x.0 x.1 h.0 h.1)

  within_fits : (n : ℕ) → Fits n (within e n)
  unfolding within
  within_fits zero = none_more
  within_fits (suc n) = in_more n _ (region_kept n (within e n) (within_fits n))

  -- ---- whole extended charts

  last_name_kept : EachChart last_name IsNamed
  unfolding last_name
  last_name_kept = each_before _ _ _ name_kept

  typed_kept : EachChart (typed e) (λ b. IsNamed b.named)
  unfolding typed
  typed_kept =
      each_made _ _ (λ x. typed_body x.0 x.1.0 x.1.1) _ _ (λ b. IsNamed b.named)
      (each_seq _ _ _ _ _ _ (each_any _) (each_seq _ _ _ _ _ _ name_kept (each_any _))) (λ x h. h.1.0)

  worded_named : (word : Named) (s : Option Named) (b : ItemBody) → IsNamed b.named → IsNamed (worded_with word s b).declared.named
  worded_named word None b h = h
  worded_named word (Some n) b h = h

  item_kept : EachChart (item e) (λ x. IsNamed x.declared.named)
  unfolding item plain plain_body signalled worded worded_body bare_signal
  item_kept =
      each_either _ _ _ _
      (each_made _ _ (λ x. plain_item x.0 x.1) _ _ (λ x. IsNamed x.declared.named)
      (each_seq _ _ _ _ _ _ (each_any _)
      (each_either _ _ _ _
      (each_made _ _ (λ x. signal_body x.0 x.1) _ _ (λ b. IsNamed b.named) (each_seq _ _ _ _ _ _ (each_any _) last_name_kept) (λ x h. h.1))
      typed_kept))
      (λ x h. h.1))
      (each_made _ _ (λ x. worded_item x.0 x.1) _ _ (λ x. IsNamed x.declared.named)
      (each_seq _ _ _ _ _ _ (each_any _)
      (each_either _ _ _ _ (each_made _ _ (λ n. signal_body n n) _ _ (λ b. IsNamed b.named) last_name_kept (λ n h. h)) typed_kept))
      (λ x h. worded_named x.0 x.1.signal x.1 h.1))

  abbrev RegionsKept : List DraftRegion × DraftRows → Type 0
  RegionsKept x = (x.0 ≢ []) × AllKept states_in_region transitions_in_region (IsRegionShaped (AreRegionsShaped 31)) x

  regions_kept : EachChart (rowed (region e (within e 31))) RegionsKept
  regions_kept =
      let kept = region_kept 31 (within e 31) (within_fits 31) in
      each_made _ _ gathered _ _ RegionsKept
      (each_made _ _ (λ x. x.0 ∷ x.1) _ _ (λ xs. (xs ≢ []) × Every (RegionKept 31) xs) (each_seq _ _ _ _ _ _ kept (each_many _ _ _ kept))
      (λ x h. (first_there e w x.0 x.1, (h.0, h.1))))
      (λ xs h. (some_there xs h.0, all_kept states_in_region transitions_in_region (IsRegionShaped (AreRegionsShaped 31)) xs h.1))
    where
      some_there : (xs : List (DraftRegion × DraftRows)) → xs ≢ [] → map (λ x. x.0) xs ≢ []
      some_there [] n = absurd (n refl)
      some_there (x ∷ xs) n = λ same. cc

  extended_kept : EachChart (extended e (within e 31)) IsExtendedShaped
  unfolding extended parts
  extended_kept =
      each_made _ _ (λ x. draft_of x.0 x.1.0 x.1.1) _ _ IsExtendedShaped
      (each_seq _ _ _ _ _ _ (each_any _)
      (each_seq _ _ _ _ _ _ (each_after _ _ _ name_kept)
      (each_after _ _ _ (each_before _ _ _ (each_seq _ _ _ _ _ _ (each_many _ _ _ item_kept) regions_kept)))))
      (λ x h. record {
        core =
            record {
              named = h.1.0;
              declared = every_at (λ d. IsNamed d.named) (map (λ i. i.declared) x.1.1.0) (every_map (λ d. IsNamed d.named) (λ i. i.declared) x.1.1.0 h.1.1.0);
              some_region = h.1.1.1.0;
              regions = every_at (IsRegionShaped (AreRegionsShaped 31)) x.1.1.1.0 h.1.1.1.1.0;
            };
        items = refl;
        entries = h.1.1.1.1.1.0;
        ways = h.1.1.1.1.1.1;
      })

text_kept : EachChart (extended_text 0) IsExtendedShaped
unfolding extended_text
text_kept = extended_kept (expression 0) (expression_writes language.Chart 0)

-- the draft of each text keeps what the grammar gives
pub draft_is_shaped : (text : List ℕ) (d : ExtendedDraft) → IsExtendedDraft text d → IsExtendedShaped d
draft_is_shaped text d h =
    let well = tokens_well language.Chart 0 (without_comments text) h.tokens h.cut in
    text_kept.holds h.plain d (plain_is_well (length text) h.tokens h.plain h.without well) h.spelled
