-- At each choice of the grammar of charts the next token decides.
use Rattle.std.proofs.Common.{◌≡◌, ℕ, zero, suc, ◌+◌, true, false, List, [], ◌∷◌, refl}
use Rattle.grammar.specs.Grammar.{seq}
use Rattle.grammar.specs.Predictive.{disjoint}
use Rattle.grammar.proofs.Shaped.{Shaped, shaped_one, shaped_seq, shaped_either, shaped_maybe, shaped_many, shaped_made, shaped_headed, shaped_barred}
use Rattle.sc_text.specs.declared.word.Word.{Word}
use Rattle.sc_text.specs.declared.word.Word.TheVariants as word
use Rattle.sc_text.specs.declared.sign.Sign.TheVariants as sign
use Rattle.sc_text.specs.Classes.{Class, AName, TheWord, TheSign}
use Rattle.sc_text.specs.Phrases.{Phrase}
use Rattle.sc_text.specs.Expression.{text_tokens, after, expression}
use Rattle.sc_text.proofs.Shapes.{Is, expression_first, expression_tails, expression_is}
use Rattle.sc_text.specs.DraftParts.{roles}
use Rattle.chart_reader.specs.declared.text_drafts.draft.DraftRegion.{DraftRegion}
use Rattle.chart_reader.specs.ChartText.{Grows, the_word, the_sign, name, last_name, declaration, flag, placed, effect, next_effect, some_effects}
use Rattle.chart_reader.specs.ChartText.{effects, target, trigger, outcome, termination, tested_words, tested, transition, transition_first, leaving, listed}
use Rattle.chart_reader.specs.ChartText.{Inner, NoMore, Nested, bare, inside, simple, body, state_first, state, states, region, within, chart, chart_text}
use Rattle.chart_reader.specs.ChartText.{braced}

abbrev pub IsExpression : Grows Phrase → Type 0
IsExpression e = Is e expression_first expression_tails

-- what begins the end of a state
abbrev pub leaving_first : List Class
leaving_first = TheWord word.Join ∷ TheWord word.Go ∷ TheWord word.Strong ∷ TheWord word.Weak ∷ TheSign sign.CloseBrace ∷ []

abbrev pub IsRegion : Grows DraftRegion → Type 0
IsRegion r = Shaped r false (the_word word.Region) []

pub data Fits : Inner → Type 1 where
  nothing : Fits NoMore
  nested : (r : Grows DraftRegion) → IsRegion r → Fits (Nested r)

pub name_is : Shaped name false (AName ∷ []) []
name_is = shaped_made _ _ _ _ _ _ _ (shaped_one _ refl)

pub last_name_is : Shaped last_name false (AName ∷ []) []
unfolding last_name
last_name_is = shaped_made _ _ _ _ _ _ _ (shaped_seq _ _ _ _ _ _ _ _ _ _ name_is (shaped_one _ refl) refl)

pub declaration_is : Shaped declaration false roles []
unfolding declaration
declaration_is =
    shaped_made _ _ _ _ _ _ _
    (shaped_seq _ _ _ _ _ _ _ _ _ _ (shaped_made _ _ _ _ _ _ _ (shaped_one _ refl))
    (shaped_seq _ _ _ _ _ _ _ _ _ _ (shaped_made _ _ _ _ _ _ _ (shaped_one _ refl)) last_name_is refl)
    refl)

-- a word and a name
pub title_is : (w : Word) → Shaped (after (the_word w) name) false (the_word w) []
title_is w = shaped_made _ _ _ _ _ _ _ (shaped_seq _ _ _ _ _ _ _ _ _ _ (shaped_one _ refl) name_is refl)

-- nothing goes on behind what ends by itself
none_goes_on : (o : List Class) → disjoint text_tokens o [] ≡ true
none_goes_on [] = refl
none_goes_on (c ∷ o) = none_goes_on o

-- what stands in braces
pub braced_is : {A : Type 0} (g : Grows A) (o s : List Class) → Shaped g false o s → disjoint text_tokens (the_sign sign.CloseBrace) s ≡ true
    → Shaped (braced g) false (the_sign sign.OpenBrace) []
braced_is g o s h d =
    shaped_made _ _ _ _ _ _ _
    (shaped_seq _ _ _ _ _ _ _ _ _ _ (shaped_one _ refl)
    (shaped_made _ _ _ _ _ _ _ (shaped_seq _ _ _ _ _ _ _ _ _ _ h (shaped_one _ refl) d))
    (none_goes_on o))

pub flag_is : (w : Word) → Shaped (flag w) true (the_word w) (the_word w)
unfolding flag
flag_is w = shaped_made _ _ _ _ _ _ _ (shaped_maybe _ _ _ _ (shaped_one _ refl))

-- a state, by what is in it
pub marked_is : {A : Type 0} (b : Grows A) (o : List Class) → Shaped b false o []
    → Shaped (seq (flag word.Initial) (seq (flag word.Final) (seq (after (the_word word.State) name) b))) false state_first []
marked_is b o h =
    shaped_seq _ _ _ _ _ _ _ _ _ _ (flag_is word.Initial)
    (shaped_seq _ _ _ _ _ _ _ _ _ _ (flag_is word.Final) (shaped_seq _ _ _ _ _ _ _ _ _ _ (title_is word.State) h (none_goes_on o)) refl) refl

pub target_is : Shaped target false (the_sign sign.Arrow) []
unfolding target
target_is = shaped_made _ _ _ _ _ _ _ (shaped_seq _ _ _ _ _ _ _ _ _ _ (shaped_one _ refl) last_name_is refl)

simple_is : Shaped simple false (the_sign sign.Semicolon) []
simple_is = shaped_made _ _ _ _ _ _ _ (shaped_one _ refl)

module _ (e : Grows Phrase) (h : IsExpression e) where
  pub placed_is : Shaped (placed e) false expression_first expression_tails
  unfolding placed
  placed_is = shaped_made _ _ _ _ _ _ _ (shaped_headed _ _ _ _ h)

  pub effect_is : Shaped (effect e) false (AName ∷ []) expression_tails
  unfolding effect
  effect_is =
      shaped_made _ _ _ _ _ _ _
      (shaped_seq _ _ _ _ _ _ _ _ _ _ name_is
      (shaped_made _ _ _ _ _ _ _ (shaped_seq _ _ _ _ _ _ _ _ _ _ (shaped_one _ refl) placed_is refl))
      refl)

  pub next_effect_is : Shaped (next_effect e) false (the_sign sign.Comma) expression_tails
  unfolding next_effect
  next_effect_is = shaped_made _ _ _ _ _ _ _ (shaped_seq _ _ _ _ _ _ _ _ _ _ (shaped_one _ refl) effect_is refl)

  pub effects_is : Shaped (effects e) true (the_word word.Do) (TheWord word.Do ∷ TheSign sign.Comma ∷ expression_tails)
  unfolding effects some_effects
  effects_is =
      shaped_made _ _ _ _ _ _ _
      (shaped_maybe _ _ _ _
      (shaped_made _ _ _ _ _ _ _
      (shaped_seq _ _ _ _ _ _ _ _ _ _ (shaped_one _ refl)
      (shaped_made _ _ _ _ _ _ _
      (shaped_seq _ _ _ _ _ _ _ _ _ _ effect_is (shaped_many _ _ _ _ next_effect_is refl) refl))
      refl)))

  pub trigger_is : Shaped (trigger e) true (the_word word.If) (TheWord word.If ∷ expression_tails)
  unfolding trigger
  trigger_is =
      shaped_maybe _ _ _ _ (shaped_made _ _ _ _ _ _ _ (shaped_seq _ _ _ _ _ _ _ _ _ _ (shaped_one _ refl) placed_is refl))

  pub outcome_is : Shaped (outcome e) false (TheWord word.Do ∷ TheSign sign.Arrow ∷ []) []
  unfolding outcome
  outcome_is = shaped_seq _ _ _ _ _ _ _ _ _ _ effects_is target_is refl

  pub termination_is : Shaped (termination e) false (the_word word.Join) []
  unfolding termination
  termination_is =
      shaped_made _ _ _ _ _ _ _
      (shaped_seq _ _ _ _ _ _ _ _ _ _ (shaped_made _ _ _ _ _ _ _ (shaped_one _ refl)) outcome_is refl)

  tested_is : Shaped (tested e) false tested_words []
  unfolding tested
  tested_is =
      shaped_made _ _ _ _ _ _ _
      (shaped_seq _ _ _ _ _ _ _ _ _ _ (shaped_made _ _ _ _ _ _ _ (shaped_one _ refl))
      (shaped_seq _ _ _ _ _ _ _ _ _ _ (flag_is word.Immediate)
      (shaped_seq _ _ _ _ _ _ _ _ _ _ trigger_is outcome_is refl)
      refl)
      refl)

  pub transition_is : Shaped (transition e) false transition_first []
  unfolding transition
  transition_is = shaped_either _ _ _ _ _ _ _ termination_is tested_is refl

  leaving_is : Shaped (leaving e) false leaving_first []
  unfolding leaving
  leaving_is =
      shaped_made _ _ _ _ _ _ _
      (shaped_seq _ _ _ _ _ _ _ _ _ _ (shaped_many _ _ _ _ transition_is refl) (shaped_one _ refl) refl)

  bare_is : Shaped (bare e) false leaving_first []
  unfolding bare
  bare_is = shaped_made _ _ _ _ _ _ _ leaving_is

  pub nested_is : (r : Grows DraftRegion) → IsRegion r → Shaped (seq (listed r r) (leaving e)) false (the_word word.Region) []
  nested_is r i =
      shaped_seq _ _ _ _ _ _ _ _ _ _
      (shaped_made _ _ _ _ _ _ _ (shaped_seq _ _ _ _ _ _ _ _ _ _ i (shaped_many _ _ _ _ i refl) refl))
      leaving_is refl

  inside_is : (inner : Inner) → Fits inner → Shaped (inside e inner) false (TheWord word.Region ∷ leaving_first) []
  unfolding inside
  inside_is NoMore nothing = shaped_barred _ _ _ _ _ bare_is refl
  inside_is (Nested a) (nested r i) =
      shaped_either _ _ _ _ _ _ _ (nested_is r i) bare_is refl

  body_is : (inner : Inner) → Fits inner → Shaped (body e inner) false (TheSign sign.Semicolon ∷ TheSign sign.OpenBrace ∷ []) []
  unfolding body
  body_is inner f =
      shaped_either _ _ _ _ _ _ _ simple_is
      (shaped_made _ _ _ _ _ _ _ (shaped_seq _ _ _ _ _ _ _ _ _ _ (shaped_one _ refl) (inside_is inner f) refl))
      refl

  pub state_is : (inner : Inner) → Fits inner → Shaped (state e inner) false state_first []
  unfolding state
  state_is inner f = shaped_made _ _ _ _ _ _ _ (marked_is (body e inner) _ (body_is inner f))

  states_are : (inner : Inner) → Fits inner → Shaped (states e inner) false state_first state_first
  unfolding states
  states_are inner f =
      shaped_made _ _ _ _ _ _ _ (shaped_seq _ _ _ _ _ _ _ _ _ _ (state_is inner f) (shaped_many _ _ _ _ (state_is inner f) refl) refl)

  pub region_is : (inner : Inner) → Fits inner → IsRegion (region e inner)
  unfolding region
  region_is inner f =
      shaped_made _ _ _ _ _ _ _
      (shaped_seq _ _ _ _ _ _ _ _ _ _ (title_is word.Region) (braced_is (states e inner) _ _ (states_are inner f) refl) refl)

  pub within_fits : (n : ℕ) → Fits (within e n)
  unfolding within
  within_fits zero = nothing
  within_fits (suc n) = nested _ (region_is (within e n) (within_fits n))

  chart_is : (inner : Inner) → Fits inner → Shaped (chart e inner) false (the_word word.Chart) []
  unfolding chart
  chart_is inner f =
      let i = region_is inner f in
      shaped_made _ _ _ _ _ _ _
      (shaped_seq _ _ _ _ _ _ _ _ _ _ (title_is word.Chart)
      (braced_is _ _ _
      (shaped_seq _ _ _ _ _ _ _ _ _ _ (shaped_many _ _ _ _ declaration_is refl)
      (shaped_made _ _ _ _ _ _ _ (shaped_seq _ _ _ _ _ _ _ _ _ _ i (shaped_many _ _ _ _ i refl) refl))
      refl)
      refl)
      refl)

pub chart_text_is : (k : ℕ) → Shaped (chart_text k) false (the_word word.Chart) []
unfolding chart_text
chart_text_is k =
    chart_is (expression k) (expression_is k) (within (expression k) (31 + k)) (within_fits (expression k) (expression_is k) (31 + k))
