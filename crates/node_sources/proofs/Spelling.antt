-- Each draft that good tokens spell has its places at good tokens.
use Rattle.std.proofs.Common.{◌≡◌, ℕ, zero, suc, Bool, IsTrue, List, [], ◌∷◌, Option, Some, None, sym, subst}
use Rattle.grammar.specs.Grammar.{is_in}
use Rattle.grammar.proofs.Each.{Every, OfIt, Each, each_one, each_seq, each_either, each_maybe, each_many, each_made, each_barred, each_as}
use Rattle.sc_text.specs.declared.token.Token.{Token}
use Rattle.sc_text.specs.declared.token.TokenKind.{TokenKind}
use Rattle.sc_text.specs.declared.token.TokenKind.TheVariants as token
use Rattle.sc_text.specs.declared.word.Word.TheVariants as word
use Rattle.sc_text.specs.Classes.{AName, Class, class_of}
use Rattle.sc_text.specs.Phrases.{Phrase}
use Rattle.sc_text.specs.Expression.{text_tokens, expression}
use Rattle.sc_text.proofs.EachPart.{each_after, each_before}
use Rattle.core_charts.specs.declared.region.TransitionKind.{TransitionKind}
use Rattle.sc_text.specs.declared.drafts.parts.Named.{Named}
use Rattle.sc_text.specs.DraftParts.{name_of, or_none}
use Rattle.chart_reader.specs.declared.text_drafts.draft.DraftTransition.{DraftTransition}
use Rattle.chart_reader.specs.declared.text_drafts.draft.DraftRegion.{DraftRegion}
use Rattle.chart_reader.specs.declared.text_drafts.draft.DraftRegion.TheViews.{out-roll-DraftRegion, out-roll-DraftState}
use Rattle.chart_reader.specs.declared.text_drafts.draft.DraftState.{DraftState}
use Rattle.chart_reader.specs.declared.text_drafts.draft.DraftChart.{DraftChart}
use Rattle.chart_reader.specs.Draft.{tested_by, state_of, region_of, chart_of}
use Rattle.chart_reader.specs.ChartText.{Grows, name, effect, next_effect, listed, some_effects, effects, outcome, moment, termination, tested}
use Rattle.chart_reader.specs.ChartText.{tested_words, the_word, transition, leaving, Inner, NoMore, Nested, bare, inside, body, state, states}
use Rattle.chart_reader.specs.ChartText.{region, within, chart, chart_text}
use Rattle.node_sources.specs.ChartLaws.{word_of}
use Rattle.node_sources.proofs.Words.{name_is, join_is, tested_is}
use Rattle.node_sources.proofs.Placing as put

module _ (Good : Token → Type 0) where
  abbrev EachGood : {A : Type 0} → Grows A → (A → Type 0) → Type 0
  EachGood g P = Each {L = text_tokens} Good g P

  abbrev IsNamed : Named → Type 0
  IsNamed = put.IsNamed Good

  abbrev IsTransitionPut : DraftTransition → Type 0
  IsTransitionPut = put.IsTransitionPut Good

  abbrev IsRegionPut : DraftRegion → Type 0
  IsRegionPut = put.IsRegionPut Good

  abbrev IsStatePut : DraftState → Type 0
  IsStatePut = put.IsStatePut Good

  each_any : {A : Type 0} (g : Grows A) → EachGood g (λ x. Unit {0})
  each_any g = record { holds = λ text x q s. tt }

  as_kind : (t : Token) (k : TokenKind) → t.kind ≡ k → Good t → Good (record { kind = k; at = t.at })
  as_kind t k same good = subst (λ kind. Good (record { kind = kind; at = t.at })) same good

  name_put : EachGood name IsNamed
  name_put =
      each_made _ _ _ _ _ IsNamed (each_one (AName ∷ []) (λ t. put.Has Good (token.Name (name_of t.kind)) t.at)
      (λ t q c. as_kind t (token.Name (name_of t.kind)) (name_is t.kind c) q)) (λ t h. h)

  -- the word of a transition
  abbrev Begins : TransitionKind × ℕ → Type 0
  Begins m = put.Has Good (token.Word (word_of m.0)) m.1

  moment_put : (words : List Class) → ((k : TokenKind) → IsTrue (is_in text_tokens words (class_of k)) → k ≡ token.Word (word_of (tested_by k))) →
      EachGood (moment words) Begins
  moment_put words are =
      each_made _ _ _ _ _ Begins (each_one words (λ t. put.Has Good (token.Word (word_of (tested_by t.kind))) t.at)
      (λ t q c. as_kind t (token.Word (word_of (tested_by t.kind))) (are t.kind c) q)) (λ t h. h)

  module _ (e : Grows Phrase) where
    effect_put : EachGood (effect e) (put.IsEffectPut Good)
    unfolding effect
    effect_put = each_made _ _ _ _ _ (put.IsEffectPut Good) (each_seq _ _ _ _ _ _ name_put (each_any _)) (λ x h. h.0)

    listed_put : {A : Type 0} (g h : Grows A) (P : A → Type 0) → EachGood g P → EachGood h P → EachGood (listed g h) (Every P)
    listed_put g h P a b = each_made _ _ _ _ _ (Every P) (each_seq _ _ _ _ _ _ a (each_many _ _ _ b)) (λ x h. (h.0, h.1))

    none_or_all : {A : Type 0} (P : A → Type 0) (xs : Option (List A)) → OfIt (Every P) xs → Every P (or_none xs)
    none_or_all P None h = tt
    none_or_all P (Some xs) h = h

    effects_put : EachGood (effects e) (Every (put.IsEffectPut Good))
    unfolding effects some_effects next_effect
    effects_put =
        each_made _ _ _ _ _ (Every (put.IsEffectPut Good))
        (each_maybe _ _ _ (each_after _ _ _ (listed_put _ _ _ effect_put (each_after _ _ _ effect_put)))) (λ xs h. none_or_all _ xs h)

    outcome_put : EachGood (outcome e) (λ x. Every (put.IsEffectPut Good) x.0)
    unfolding outcome
    outcome_put = each_as _ _ _ (λ x. Every (put.IsEffectPut Good) x.0) (each_seq _ _ _ _ _ _ effects_put (each_any _)) (λ x h. h.0)

    termination_put : EachGood (termination e) IsTransitionPut
    unfolding termination
    termination_put =
        each_made _ _ _ _ _ IsTransitionPut (each_seq _ _ _ _ _ _ (moment_put (the_word word.Join) join_is) outcome_put)
        (λ x h. record { begins = h.0; effects = h.1 })

    tested_put : EachGood (tested e) IsTransitionPut
    unfolding tested
    tested_put =
        each_made _ _ _ _ _ IsTransitionPut
        (each_seq _ _ _ _ _ _ (moment_put tested_words tested_is)
        (each_seq _ _ _ _ _ _ (each_any _) (each_seq _ _ _ _ _ _ (each_any _) outcome_put)))
        (λ x h. record { begins = h.0; effects = h.1.1.1 })

    leaving_put : EachGood (leaving e) (Every IsTransitionPut)
    unfolding leaving transition
    leaving_put = each_before _ _ _ (each_many _ _ _ (each_either _ _ _ _ termination_put tested_put))

    -- ---- states and regions

    abbrev InsidePut : List DraftRegion × List DraftTransition → Type 0
    InsidePut x = Every IsRegionPut x.0 × Every IsTransitionPut x.1

    data Fits : Inner → Type 1 where
      none_more : Fits NoMore
      nested : (r : Grows DraftRegion) → EachGood r IsRegionPut → Fits (Nested r)

    bare_put : EachGood (bare e) InsidePut
    unfolding bare
    bare_put = each_made _ _ _ _ _ InsidePut leaving_put (λ ts h. (tt, h))

    inside_put : (i : Inner) → Fits i → EachGood (inside e i) InsidePut
    unfolding inside
    inside_put i none_more = each_barred _ _ _ _ bare_put
    inside_put i (nested r a) =
        each_either _ _ _ _ (each_as _ _ _ InsidePut (each_seq _ _ _ _ _ _ (listed_put r r _ a a) leaving_put) (λ x h. (h.0, h.1))) bare_put

    body_put : (i : Inner) → Fits i → EachGood (body e i) InsidePut
    unfolding body
    body_put i f =
        each_either _ _ _ _ (each_made _ _ _ _ _ InsidePut (each_any _) (λ t h. (tt, tt))) (each_after _ _ _ (inside_put i f))

    state_is_put : (is_initial is_final : Bool) (called : Named) (x : List DraftRegion × List DraftTransition) → IsNamed called → InsidePut x →
        IsStatePut (state_of is_initial is_final called x)
    state_is_put is_initial is_final called x h i =
        let is = out-roll-DraftState (record { is_initial = is_initial; is_final = is_final; named = called; regions = x.0; transitions = x.1 }) in
        put.state_put Good (state_of is_initial is_final called x) (subst (λ s. IsNamed s.named) (sym is) h)
        (subst (λ s. Every IsTransitionPut s.transitions) (sym is) i.1) (subst (λ s. Every IsRegionPut s.regions) (sym is) i.0)

    region_is_put : (called : Named) (inner : List DraftState) → IsNamed called → Every IsStatePut inner → IsRegionPut (region_of called inner)
    region_is_put called inner h i =
        let is = out-roll-DraftRegion (record { named = called; states = inner }) in
        put.region_put Good (region_of called inner) (subst (λ r. IsNamed r.named) (sym is) h)
        (subst (λ r. Every IsStatePut r.states) (sym is) i)

    state_has : (i : Inner) → Fits i → EachGood (state e i) IsStatePut
    unfolding state
    state_has i f =
        each_made _ _ (λ x. state_of x.0 x.1.0 x.1.1.0 x.1.1.1) _ _ IsStatePut
        (each_seq _ _ _ _ _ _ (each_any _)
        (each_seq _ _ _ _ _ _ (each_any _) (each_seq _ _ _ _ _ _ (each_after _ _ _ name_put) (body_put i f))))
        (λ x h. state_is_put x.0 x.1.0 x.1.1.0 x.1.1.1 h.1.1.0 h.1.1.1)

    region_has : (i : Inner) → Fits i → EachGood (region e i) IsRegionPut
    unfolding region states
    region_has i f =
        each_made _ _ (λ x. region_of x.0 x.1) _ _ IsRegionPut
        (each_seq _ _ _ _ _ _ (each_after _ _ _ name_put)
        (each_after _ _ _ (each_before _ _ _ (listed_put _ _ _ (state_has i f) (state_has i f)))))
        (λ x h. region_is_put x.0 x.1 h.0 h.1)

    within_fits : (n : ℕ) → Fits (within e n)
    unfolding within
    within_fits zero = none_more
    within_fits (suc n) = nested _ (region_has (within e n) (within_fits n))

    pub record IsChartPut (d : DraftChart) : Type 0 where
      pub named : IsNamed d.named
      pub regions : Every IsRegionPut d.regions

    chart_has : EachGood (chart e (within e 31)) IsChartPut
    unfolding chart
    chart_has =
        each_made _ _ (λ x. chart_of x.0 x.1.0 x.1.1) _ _ IsChartPut
        (each_seq _ _ _ _ _ _ (each_after _ _ _ name_put)
        (each_after _ _ _ (each_before _ _ _
        (each_seq _ _ _ _ _ _ (each_any _)
        (listed_put _ _ _ (region_has (within e 31) (within_fits 31)) (region_has (within e 31) (within_fits 31)))))))
        (λ x h. record { named = h.0; regions = h.1.1 })

  pub text_has : EachGood (chart_text 0) (IsChartPut (expression 0))
  unfolding chart_text
  text_has = chart_has (expression 0)
