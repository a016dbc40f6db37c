-- What the grammar of charts gives of each draft.
use Rattle.std.proofs.Common.{◌≡◌, ◌≢◌, ℕ, zero, suc, Bool, IsTrue, List, [], ◌∷◌, Option, Some, None, refl, sym, subst}
use Rattle.std.specs.List.{slice_get}
use Rattle.grammar.specs.Grammar.{is_in}
use Rattle.grammar.proofs.Each.{Every, OfIt, Each, every_at, each_one, each_seq, each_either, each_maybe, each_many, each_made, each_headed, each_barred}
use Rattle.grammar.proofs.Each.{each_as}
use Rattle.sc_text.specs.declared.language.Language.TheVariants as language
use Rattle.sc_text.specs.declared.token.TokenKind.{TokenKind}
use Rattle.sc_text.specs.declared.token.TokenKind.TheVariants as token
use Rattle.sc_text.specs.declared.word.Word.TheVariants as word
use Rattle.sc_text.specs.Classes.{class_of}
use Rattle.sc_text.specs.Parts.{IsNameIn}
use Rattle.sc_text.specs.Phrases.{Phrase}
use Rattle.sc_text.specs.Expression.{text_tokens, expression}
use Rattle.sc_text.proofs.WellTokens.{IsWell, tokens_well}
use Rattle.sc_text.proofs.EachPart.{each_after, each_before}
use Rattle.sc_text.proofs.WritablePhrases.{CanWrite, expression_writes}
use Rattle.core_charts.specs.declared.region.TransitionKind.TheVariants as kind
use Rattle.sc_text.specs.declared.drafts.parts.Named.{Named}
use Rattle.sc_text.specs.declared.drafts.parts.TextExpression.{TextExpression}
use Rattle.sc_text.specs.DraftParts.{or_none}
use Rattle.sc_text.proofs.EachName.{each_name}
use Rattle.chart_reader.specs.declared.text_drafts.draft.DraftTransition.{DraftTransition}
use Rattle.chart_reader.specs.declared.text_drafts.draft.DraftRegion.{DraftRegion}
use Rattle.chart_reader.specs.declared.text_drafts.draft.DraftRegion.TheViews.{out-roll-DraftRegion, out-roll-DraftState}
use Rattle.chart_reader.specs.declared.text_drafts.draft.DraftState.{DraftState}
use Rattle.chart_reader.specs.declared.text_drafts.draft.DraftChart.{DraftChart}
use Rattle.chart_reader.specs.Draft.{tested_by, state_of, region_of, chart_of}
use Rattle.chart_reader.specs.ChartText.{Grows, name, last_name, declaration, placed, effect, next_effect, listed}
use Rattle.chart_reader.specs.ChartText.{some_effects, effects, trigger, outcome, moment}
use Rattle.chart_reader.specs.ChartText.{termination, tested_words, tested, transition, leaving, Inner, NoMore, Nested, bare, inside, body, state, states}
use Rattle.chart_reader.specs.ChartText.{region, within, chart, chart_text}
use Rattle.chart_reader.specs.Reading.{IsDraft}
use Rattle.chart_reader.specs.Shape.{IsWritable, IsTransitionShaped, IsStateShaped, IsRegionShaped, AreRegionsShaped, IsShaped}

abbrev pub EachChart : {A : Type 0} → Grows A → (A → Type 0) → Type 0
EachChart g P = Each {L = text_tokens} (IsWell language.Chart) g P

abbrev pub IsNamed : Named → Type 0
IsNamed n = IsNameIn language.Chart n.name

abbrev pub Whatever : {A : Type 0} → A → Type 0
Whatever x = Unit {0}

pub each_any : {A : Type 0} (g : Grows A) → EachChart g Whatever
each_any g = record { holds = λ text x q s. tt }

pub name_kept : EachChart name IsNamed
name_kept = each_made _ _ _ _ _ IsNamed (each_name language.Chart) (λ t h. h)

last_name_kept : EachChart last_name IsNamed
unfolding last_name
last_name_kept = each_before _ _ _ name_kept

declaration_kept : EachChart declaration (λ d. IsNamed d.named)
unfolding declaration
declaration_kept =
    each_made _ _ _ _ _ (λ d. IsNamed d.named) (each_seq _ _ _ _ _ _ (each_any _) (each_seq _ _ _ _ _ _ (each_any _) last_name_kept)) (λ x h. h.1.1)

-- the word is no termination's
not_join : (k : TokenKind) → IsTrue (is_in text_tokens tested_words (class_of k)) → tested_by k ≡ kind.Join → ⊥
not_join (token.Word word.Join) c e = cc
not_join (token.Word word.Strong) c e = cc
not_join (token.Word word.Weak) c e = cc
not_join (token.Word w) c e = cc
not_join k c e = cc

module _ (e : Grows Phrase) (w : EachChart e CanWrite) where
  placed_kept : EachChart (placed e) IsWritable
  unfolding placed
  placed_kept = each_made _ _ _ _ _ IsWritable (each_headed _ _ _ w) (λ x h. h)

  effect_kept : EachChart (effect e) (λ x. IsWritable x.value)
  unfolding effect
  effect_kept = each_made _ _ _ _ _ (λ x. IsWritable x.value) (each_seq _ _ _ _ _ _ name_kept (each_after _ _ _ placed_kept)) (λ x h. h.1)

  pub listed_kept : {A : Type 0} (g h : Grows A) (P : A → Type 0) → EachChart g P → EachChart h P → EachChart (listed g h) (Every P)
  listed_kept g h P a b = each_made _ _ _ _ _ (Every P) (each_seq _ _ _ _ _ _ a (each_many _ _ _ b)) (λ x h. (h.0, h.1))

  none_or_all : {A : Type 0} (P : A → Type 0) (xs : Option (List A)) → OfIt (Every P) xs → Every P (or_none xs)
  none_or_all P None h = tt
  none_or_all P (Some xs) h = h

  effects_kept : EachChart (effects e) (Every (λ x. IsWritable x.value))
  unfolding effects some_effects next_effect
  effects_kept =
      each_made _ _ _ _ _ (Every (λ x. IsWritable x.value))
      (each_maybe _ _ _ (each_after _ _ _ (listed_kept _ _ _ effect_kept (each_after _ _ _ effect_kept)))) (λ xs h. none_or_all _ xs h)

  pub outcome_kept : EachChart (outcome e) (λ x. Every (λ f. IsWritable f.value) x.0)
  unfolding outcome
  outcome_kept = each_as _ _ _ (λ x. Every (λ f. IsWritable f.value) x.0) (each_seq _ _ _ _ _ _ effects_kept (each_any _)) (λ x h. h.0)

  pub trigger_kept : EachChart (trigger e) (OfIt IsWritable)
  unfolding trigger
  trigger_kept = each_maybe _ _ _ (each_after _ _ _ placed_kept)

  pub of_it : (o : Option TextExpression) → OfIt IsWritable o → (x : TextExpression) → o ≡ Some x → IsWritable x
  of_it None h x s = absurd (cc)
  of_it (Some y) h x s =
      let same : y ≡ x = cc in
      subst IsWritable same h

  pub termination_kept : EachChart (termination e) IsTransitionShaped
  unfolding termination
  termination_kept =
      each_made _ _ _ _ _ IsTransitionShaped (each_seq _ _ _ _ _ _ (each_any _) outcome_kept)
      (λ x h. record { plain_join = λ j. (refl, refl); trigger = of_it None tt; effects = every_at (λ f. IsWritable f.value) x.1.0 h.1 })

  pub moment_kept : EachChart (moment tested_words) (λ m. m.0 ≢ kind.Join)
  moment_kept =
      each_made _ _ _ _ _ (λ m. m.0 ≢ kind.Join) (each_one tested_words (λ t. tested_by t.kind ≢ kind.Join) (λ t q c. not_join t.kind c)) (λ t h. h)

  tested_kept : EachChart (tested e) IsTransitionShaped
  unfolding tested
  tested_kept =
      each_made _ _ _ _ _ IsTransitionShaped
      (each_seq _ _ _ _ _ _ moment_kept (each_seq _ _ _ _ _ _ (each_any _) (each_seq _ _ _ _ _ _ trigger_kept outcome_kept)))
      (λ x h. record {
        plain_join = λ j. absurd (h.0 j);
        trigger = of_it x.1.1.0 h.1.1.0;
        effects = every_at (λ f. IsWritable f.value) x.1.1.1.0 h.1.1.1;
      })

  leaving_kept : EachChart (leaving e) (Every IsTransitionShaped)
  unfolding leaving transition
  leaving_kept = each_before _ _ _ (each_many _ _ _ (each_either _ _ _ _ termination_kept tested_kept))

  -- ---- states and regions

  pub none_shaped : (n : ℕ) → AreRegionsShaped n []
  none_shaped zero = refl
  none_shaped (suc n) = λ i r s. absurd (cc)

  abbrev InsideShaped : ℕ → List DraftRegion × List DraftTransition → Type 0
  InsideShaped n x = AreRegionsShaped n x.0 × Every IsTransitionShaped x.1

  data Fits : ℕ → Inner → Type 1 where
    none_more : Fits zero NoMore
    nested : (n : ℕ) (r : Grows DraftRegion) → EachChart r (IsRegionShaped (AreRegionsShaped n)) → Fits (suc n) (Nested r)

  bare_kept : (n : ℕ) → EachChart (bare e) (InsideShaped n)
  unfolding bare
  bare_kept n = each_made _ _ _ _ _ (InsideShaped n) leaving_kept (λ ts h. (none_shaped n, h))

  inside_kept : (n : ℕ) (i : Inner) → Fits n i → EachChart (inside e i) (InsideShaped n)
  unfolding inside
  inside_kept n i none_more = each_barred _ _ _ _ (bare_kept zero)
  inside_kept n i (nested m r a) =
      each_either _ _ _ _
      (each_as _ _ _ (InsideShaped (suc m)) (each_seq _ _ _ _ _ _ (listed_kept r r _ a a) leaving_kept) (λ x h. (every_at _ x.0 h.0, h.1)))
      (bare_kept (suc m))

  body_kept : (n : ℕ) (i : Inner) → Fits n i → EachChart (body e i) (InsideShaped n)
  unfolding body
  body_kept n i f =
      each_either _ _ _ _ (each_made _ _ _ _ _ (InsideShaped n) (each_any _) (λ t h. (none_shaped n, tt))) (each_after _ _ _ (inside_kept n i f))

  pub state_shaped : (n : ℕ) (is_initial is_final : Bool) (called : Named) (x : List DraftRegion × List DraftTransition) → IsNamed called → InsideShaped n x
      → IsStateShaped (AreRegionsShaped n) (state_of is_initial is_final called x)
  state_shaped n is_initial is_final called x h i =
      let is = out-roll-DraftState (record { is_initial = is_initial; is_final = is_final; named = called; regions = x.0; transitions = x.1 }) in
      record {
        named = subst (λ s. IsNamed s.named) (sym is) h;
        regions = subst (λ s. AreRegionsShaped n s.regions) (sym is) i.0;
        transitions = subst (λ s. (k : ℕ) (t : DraftTransition) → slice_get s.transitions k ≡ Some t → IsTransitionShaped t) (sym is)
            (every_at IsTransitionShaped x.1 i.1);
      }

  pub region_shaped : (n : ℕ) (called : Named) (inner : List DraftState) → IsNamed called → Every (IsStateShaped (AreRegionsShaped n)) inner
      → IsRegionShaped (AreRegionsShaped n) (region_of called inner)
  region_shaped n called inner h i =
      let is = out-roll-DraftRegion (record { named = called; states = inner }) in
      record {
        named = subst (λ r. IsNamed r.named) (sym is) h;
        states = subst (λ r. (k : ℕ) (s : DraftState) → slice_get r.states k ≡ Some s → IsStateShaped (AreRegionsShaped n) s) (sym is)
            (every_at (IsStateShaped (AreRegionsShaped n)) inner i);
      }

  state_kept : (n : ℕ) (i : Inner) → Fits n i → EachChart (state e i) (IsStateShaped (AreRegionsShaped n))
  unfolding state
  state_kept n i f =
      each_made _ _ (λ x. state_of x.0 x.1.0 x.1.1.0 x.1.1.1) _ _ (IsStateShaped (AreRegionsShaped n))
      (each_seq _ _ _ _ _ _ (each_any _)
      (each_seq _ _ _ _ _ _ (each_any _) (each_seq _ _ _ _ _ _ (each_after _ _ _ name_kept) (body_kept n i f))))
      (λ x h. state_shaped n x.0 x.1.0 x.1.1.0 x.1.1.1 h.1.1.0 h.1.1.1)

  region_kept : (n : ℕ) (i : Inner) → Fits n i → EachChart (region e i) (IsRegionShaped (AreRegionsShaped n))
  unfolding region states
  region_kept n i f =
      each_made _ _ (λ x. region_of x.0 x.1) _ _ (IsRegionShaped (AreRegionsShaped n))
      (each_seq _ _ _ _ _ _ (each_after _ _ _ name_kept)
      (each_after _ _ _ (each_before _ _ _ (listed_kept _ _ _ (state_kept n i f) (state_kept n i f)))))
      (λ x h. region_shaped n x.0 x.1 h.0 h.1)

  within_fits : (n : ℕ) → Fits n (within e n)
  unfolding within
  within_fits zero = none_more
  within_fits (suc n) = nested n _ (region_kept n (within e n) (within_fits n))

  pub first_there : {A : Type 0} (x : A) (xs : List A) → x ∷ xs ≢ []
  first_there x xs same = cc

  chart_kept : EachChart (chart e (within e 31)) IsShaped
  unfolding chart
  chart_kept =
      each_made _ _ (λ x. chart_of x.0 x.1.0 x.1.1) _ _ IsShaped
      (each_seq _ _ _ _ _ _ (each_after _ _ _ name_kept)
      (each_after _ _ _
      (each_before _ _ _
      (each_seq _ _ _ _ _ _ (each_many _ _ _ declaration_kept)
      (each_made _ _ (λ x. x.0 ∷ x.1) _ _ (λ regions. (regions ≢ []) × Every (IsRegionShaped (AreRegionsShaped 31)) regions)
      (each_seq _ _ _ _ _ _ (region_kept 31 (within e 31) (within_fits 31)) (each_many _ _ _ (region_kept 31 (within e 31) (within_fits 31))))
      (λ x h. (first_there x.0 x.1, (h.0, h.1))))))))
      (λ x h. record {
        named = h.0;
        declared = every_at (λ d. IsNamed d.named) x.1.0 h.1.0;
        some_region = h.1.1.0;
        regions = every_at (IsRegionShaped (AreRegionsShaped 31)) x.1.1 h.1.1.1;
      })

text_kept : EachChart (chart_text 0) IsShaped
unfolding chart_text
text_kept = chart_kept (expression 0) (expression_writes language.Chart 0)

-- the draft of each text keeps what the grammar gives
pub draft_is_shaped : (text : List ℕ) (d : DraftChart) → IsDraft text d → IsShaped d
draft_is_shaped text d h = text_kept.holds h.tokens d (tokens_well language.Chart 0 text h.tokens h.cut) h.spelled
