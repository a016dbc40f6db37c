-- At each choice of the grammar of extended charts the next token decides.
use Rattle.std.proofs.Common.{ℕ, zero, suc, ◌+◌, true, false, [], ◌∷◌, refl}
use Rattle.grammar.specs.Grammar.{either}
use Rattle.grammar.proofs.Shaped.{Shaped, shaped_one, shaped_seq, shaped_either, shaped_maybe, shaped_many, shaped_made, shaped_barred}
use Rattle.sc_text.specs.declared.word.Word.TheVariants as word
use Rattle.sc_text.specs.declared.sign.Sign.TheVariants as sign
use Rattle.sc_text.specs.Classes.{AName, TheWord, TheSign}
use Rattle.sc_text.specs.Phrases.{Phrase}
use Rattle.sc_text.specs.Expression.{expression}
use Rattle.sc_text.proofs.Shapes.{expression_tails, expression_is}
use Rattle.sc_text.specs.DraftParts.{roles, kinds}
use Rattle.chart_reader.specs.declared.text_drafts.draft.DraftRegion.{DraftRegion}
use Rattle.chart_reader.specs.ChartText.{Grows, the_word, the_sign, tested_words, transition_first, state_first}
use Rattle.chart_reader.proofs.Shapes.{IsExpression, leaving_first, name_is, last_name_is, title_is, braced_is, flag_is, marked_is, placed_is}
use Rattle.chart_reader.proofs.Shapes.{trigger_is}
use Rattle.extended_reader.specs.declared.text_drafts.draft.DraftRows.{DraftRows}
use Rattle.extended_reader.specs.ExtendedText.{item_first, item_value, last_value, typed, signalled, bare_signal, plain_body, worded_body, plain, worded, item}
use Rattle.extended_reader.specs.ExtendedText.{combining_signs, combining, combined, becoming, emitting, effect_end, effect, next_effect, some_effects}
use Rattle.extended_reader.specs.ExtendedText.{effects, two_names, two_more, lead, last_lead, leading, outcome, last_effects, entry, entry_first}
use Rattle.extended_reader.specs.ExtendedText.{some_count, counted, some_delay, at_once, waiting, pause, pause_first, tested, termination}
use Rattle.extended_reader.specs.ExtendedText.{transition, transitions, leaving, Inner, NoMore, Nested, rowed, bare, nested, inside, simple, acting, body}
use Rattle.extended_reader.specs.ExtendedText.{state, region, within, parts, extended, extended_text}

abbrev pub IsRegion : Grows (DraftRegion × DraftRows) → Type 0
IsRegion r = Shaped r false (the_word word.Region) []

pub data Fits : Inner → Type 1 where
  nothing : Fits NoMore
  in_more : (r : Grows (DraftRegion × DraftRows)) → IsRegion r → Fits (Nested r)

-- ---- items

pub signalled_is : Shaped signalled false (AName ∷ []) []
unfolding signalled
signalled_is = shaped_made _ _ _ _ _ _ _ (shaped_seq _ _ _ _ _ _ _ _ _ _ name_is last_name_is refl)

pub bare_signal_is : Shaped bare_signal false (AName ∷ []) []
unfolding bare_signal
bare_signal_is = shaped_made _ _ _ _ _ _ _ last_name_is

pub at_once_is : Shaped at_once false (the_word word.Immediate) []
unfolding at_once
at_once_is = shaped_made _ _ _ _ _ _ _ (shaped_one _ refl)

-- ---- where transitions lead

pub two_names_are : Shaped two_names false (AName ∷ []) []
unfolding two_names
two_names_are = shaped_seq _ _ _ _ _ _ _ _ _ _ name_is name_is refl

lead_is : Shaped lead false (AName ∷ []) (AName ∷ [])
unfolding lead two_more
lead_is = shaped_made _ _ _ _ _ _ _ (shaped_seq _ _ _ _ _ _ _ _ _ _ name_is (shaped_maybe _ _ _ _ two_names_are) refl)

leading_is : Shaped leading false (the_sign sign.Arrow) []
unfolding leading last_lead
leading_is =
    shaped_made _ _ _ _ _ _ _
    (shaped_seq _ _ _ _ _ _ _ _ _ _ (shaped_one _ refl)
    (shaped_made _ _ _ _ _ _ _ (shaped_seq _ _ _ _ _ _ _ _ _ _ lead_is (shaped_one _ refl) refl))
    refl)

module _ (e : Grows Phrase) (h : IsExpression e) where
  value_is : Shaped (item_value e) true (the_sign sign.Becomes) (TheSign sign.Becomes ∷ expression_tails)
  unfolding item_value
  value_is =
      shaped_maybe _ _ _ _ (shaped_made _ _ _ _ _ _ _ (shaped_seq _ _ _ _ _ _ _ _ _ _ (shaped_one _ refl) (placed_is e h) refl))

  last_value_is : Shaped (last_value e) false (TheSign sign.Becomes ∷ TheSign sign.Semicolon ∷ []) []
  unfolding last_value
  last_value_is = shaped_made _ _ _ _ _ _ _ (shaped_seq _ _ _ _ _ _ _ _ _ _ value_is (shaped_one _ refl) refl)

  typed_is : Shaped (typed e) false kinds []
  unfolding typed
  typed_is =
      shaped_made _ _ _ _ _ _ _
      (shaped_seq _ _ _ _ _ _ _ _ _ _ (shaped_made _ _ _ _ _ _ _ (shaped_one _ refl))
      (shaped_seq _ _ _ _ _ _ _ _ _ _ name_is last_value_is refl)
      refl)

  pub plain_is : Shaped (plain e) false roles []
  unfolding plain plain_body
  plain_is =
      shaped_made _ _ _ _ _ _ _
      (shaped_seq _ _ _ _ _ _ _ _ _ _ (shaped_made _ _ _ _ _ _ _ (shaped_one _ refl))
      (shaped_either _ _ _ _ _ _ _ signalled_is typed_is refl)
      refl)

  worded_is : Shaped (worded e) false (AName ∷ []) []
  unfolding worded worded_body
  worded_is =
      shaped_made _ _ _ _ _ _ _
      (shaped_seq _ _ _ _ _ _ _ _ _ _ name_is (shaped_either _ _ _ _ _ _ _ bare_signal_is typed_is refl) refl)

  pub item_is : Shaped (item e) false item_first []
  unfolding item
  item_is = shaped_either _ _ _ _ _ _ _ plain_is worded_is refl

  -- ---- effects

  pub becoming_is : Shaped (becoming e) false (the_sign sign.Becomes) expression_tails
  unfolding becoming
  becoming_is =
      shaped_made _ _ _ _ _ _ _ (shaped_made _ _ _ _ _ _ _ (shaped_seq _ _ _ _ _ _ _ _ _ _ (shaped_one _ refl) (placed_is e h) refl))

  pub combined_is : Shaped (combined e) false combining_signs expression_tails
  unfolding combined combining
  combined_is =
      shaped_made _ _ _ _ _ _ _
      (shaped_made _ _ _ _ _ _ _
      (shaped_seq _ _ _ _ _ _ _ _ _ _ (shaped_made _ _ _ _ _ _ _ (shaped_one _ refl))
      (shaped_seq _ _ _ _ _ _ _ _ _ _ (shaped_made _ _ _ _ _ _ _ (shaped_one _ refl)) (placed_is e h) refl)
      refl))

  effect_is : Shaped (effect e) false (AName ∷ []) expression_tails
  unfolding effect effect_end emitting
  effect_is =
      shaped_made _ _ _ _ _ _ _
      (shaped_seq _ _ _ _ _ _ _ _ _ _ name_is
      (shaped_either _ _ _ _ _ _ _ becoming_is (shaped_either _ _ _ _ _ _ _ combined_is (shaped_made _ _ _ _ _ _ _ name_is) refl) refl)
      refl)

  pub next_effect_is : Shaped (next_effect e) false (the_sign sign.Comma) expression_tails
  unfolding next_effect
  next_effect_is = shaped_made _ _ _ _ _ _ _ (shaped_seq _ _ _ _ _ _ _ _ _ _ (shaped_one _ refl) effect_is refl)

  some_effects_are : Shaped (some_effects e) false (AName ∷ []) (TheSign sign.Comma ∷ expression_tails)
  unfolding some_effects
  some_effects_are =
      shaped_made _ _ _ _ _ _ _
      (shaped_seq _ _ _ _ _ _ _ _ _ _ effect_is (shaped_many _ _ _ _ next_effect_is refl) refl)

  outcome_is : Shaped (outcome e) false (TheWord word.Do ∷ TheSign sign.Arrow ∷ []) []
  unfolding outcome effects
  outcome_is =
      shaped_seq _ _ _ _ _ _ _ _ _ _
      (shaped_made _ _ _ _ _ _ _
      (shaped_maybe _ _ _ _
      (shaped_made _ _ _ _ _ _ _ (shaped_seq _ _ _ _ _ _ _ _ _ _ (shaped_one _ refl) some_effects_are refl))))
      leading_is refl

  -- ---- actions and transitions

  pub entry_is : Shaped (entry e) false entry_first []
  unfolding entry last_effects
  entry_is =
      shaped_made _ _ _ _ _ _ _
      (shaped_seq _ _ _ _ _ _ _ _ _ _ (flag_is word.Immediate)
      (shaped_seq _ _ _ _ _ _ _ _ _ _ name_is
      (shaped_seq _ _ _ _ _ _ _ _ _ _ (trigger_is e h)
      (shaped_made _ _ _ _ _ _ _
      (shaped_seq _ _ _ _ _ _ _ _ _ _ (shaped_one _ refl)
      (shaped_made _ _ _ _ _ _ _ (shaped_seq _ _ _ _ _ _ _ _ _ _ some_effects_are (shaped_one _ refl) refl))
      refl))
      refl)
      refl)
      refl)

  pub some_count_is : Shaped (some_count e) false (AName ∷ []) expression_tails
  unfolding some_count
  some_count_is = shaped_made _ _ _ _ _ _ _ (shaped_seq _ _ _ _ _ _ _ _ _ _ name_is (placed_is e h) refl)

  pub some_delay_is : Shaped (some_delay e) false (AName ∷ []) (AName ∷ expression_tails)
  unfolding some_delay counted
  some_delay_is =
      shaped_made _ _ _ _ _ _ _
      (shaped_seq _ _ _ _ _ _ _ _ _ _ name_is
      (shaped_seq _ _ _ _ _ _ _ _ _ _ (placed_is e h) (shaped_maybe _ _ _ _ some_count_is) refl)
      refl)

  pub either_is : Shaped (either at_once (waiting e)) false pause_first (AName ∷ expression_tails)
  unfolding at_once waiting
  either_is = shaped_either _ _ _ _ _ _ _ at_once_is (shaped_made _ _ _ _ _ _ _ some_delay_is) refl

  pause_is : Shaped (pause e) true pause_first (TheWord word.Immediate ∷ AName ∷ expression_tails)
  unfolding pause
  pause_is = shaped_made _ _ _ _ _ _ _ (shaped_maybe _ _ _ _ either_is)

  tested_is : Shaped (tested e) false tested_words []
  unfolding tested
  tested_is =
      shaped_made _ _ _ _ _ _ _
      (shaped_seq _ _ _ _ _ _ _ _ _ _ (shaped_made _ _ _ _ _ _ _ (shaped_one _ refl))
      (shaped_seq _ _ _ _ _ _ _ _ _ _ pause_is
      (shaped_seq _ _ _ _ _ _ _ _ _ _ (trigger_is e h) outcome_is refl)
      refl)
      refl)

  pub termination_is : Shaped (termination e) false (the_word word.Join) []
  unfolding termination
  termination_is =
      shaped_made _ _ _ _ _ _ _
      (shaped_seq _ _ _ _ _ _ _ _ _ _ (shaped_made _ _ _ _ _ _ _ (shaped_one _ refl))
      (shaped_seq _ _ _ _ _ _ _ _ _ _ (trigger_is e h) outcome_is refl)
      refl)

  pub transition_is : Shaped (transition e) false transition_first []
  unfolding transition
  transition_is = shaped_either _ _ _ _ _ _ _ termination_is tested_is refl

  leaving_is : Shaped (leaving e) false leaving_first []
  unfolding leaving transitions
  leaving_is =
      shaped_made _ _ _ _ _ _ _
      (shaped_seq _ _ _ _ _ _ _ _ _ _ (shaped_made _ _ _ _ _ _ _ (shaped_many _ _ _ _ transition_is refl)) (shaped_one _ refl) refl)

  -- ---- states and regions

  bare_is : Shaped (bare e) false leaving_first []
  unfolding bare
  bare_is = shaped_made _ _ _ _ _ _ _ leaving_is

  pub nested_is : (r : Grows (DraftRegion × DraftRows)) → IsRegion r → Shaped (nested e r) false (the_word word.Region) []
  unfolding nested
  nested_is r i =
      shaped_made _ _ _ _ _ _ _
      (shaped_seq _ _ _ _ _ _ _ _ _ _
      (shaped_made _ _ _ _ _ _ _
      (shaped_made _ _ _ _ _ _ _ (shaped_seq _ _ _ _ _ _ _ _ _ _ i (shaped_many _ _ _ _ i refl) refl)))
      leaving_is refl)

  inside_is : (inner : Inner) → Fits inner → Shaped (inside e inner) false (TheWord word.Region ∷ leaving_first) []
  unfolding inside
  inside_is NoMore nothing = shaped_barred _ _ _ _ _ bare_is refl
  inside_is (Nested a) (in_more r i) = shaped_either _ _ _ _ _ _ _ (nested_is r i) bare_is refl

  acting_is : (inner : Inner) → Fits inner
      → Shaped (acting e inner) false (TheWord word.Immediate ∷ AName ∷ TheWord word.Region ∷ leaving_first) []
  unfolding acting
  acting_is inner f = shaped_seq _ _ _ _ _ _ _ _ _ _ (shaped_many _ _ _ _ entry_is refl) (inside_is inner f) refl

  simple_is : Shaped simple false (the_sign sign.Semicolon) []
  simple_is = shaped_made _ _ _ _ _ _ _ (shaped_one _ refl)

  body_is : (inner : Inner) → Fits inner → Shaped (body e inner) false (TheSign sign.Semicolon ∷ TheSign sign.OpenBrace ∷ []) []
  unfolding body
  body_is inner f =
      shaped_either _ _ _ _ _ _ _ simple_is
      (shaped_made _ _ _ _ _ _ _ (shaped_seq _ _ _ _ _ _ _ _ _ _ (shaped_one _ refl) (acting_is inner f) refl))
      refl

  pub state_is : (inner : Inner) → Fits inner → Shaped (state e inner) false state_first []
  unfolding state
  state_is inner f = shaped_made _ _ _ _ _ _ _ (marked_is (body e inner) _ (body_is inner f))

  states_are : (inner : Inner) → Fits inner → Shaped (rowed (state e inner)) false state_first state_first
  states_are inner f =
      shaped_made _ _ _ _ _ _ _
      (shaped_made _ _ _ _ _ _ _
      (shaped_seq _ _ _ _ _ _ _ _ _ _ (state_is inner f) (shaped_many _ _ _ _ (state_is inner f) refl) refl))

  pub region_is : (inner : Inner) → Fits inner → IsRegion (region e inner)
  unfolding region
  region_is inner f =
      shaped_made _ _ _ _ _ _ _
      (shaped_seq _ _ _ _ _ _ _ _ _ _ (title_is word.Region) (braced_is (rowed (state e inner)) _ _ (states_are inner f) refl) refl)

  pub within_fits : (n : ℕ) → Fits (within e n)
  unfolding within
  within_fits zero = nothing
  within_fits (suc n) = in_more _ (region_is (within e n) (within_fits n))

  -- ---- charts

  parts_are : (inner : Inner) → Fits inner → Shaped (parts e inner) false
      (TheWord word.Input ∷ TheWord word.Output ∷ TheWord word.Local ∷ AName ∷ TheWord word.Region ∷ []) (the_word word.Region)
  unfolding parts
  parts_are inner f =
      let i = region_is inner f in
      shaped_seq _ _ _ _ _ _ _ _ _ _ (shaped_many _ _ _ _ item_is refl)
      (shaped_made _ _ _ _ _ _ _
      (shaped_made _ _ _ _ _ _ _ (shaped_seq _ _ _ _ _ _ _ _ _ _ i (shaped_many _ _ _ _ i refl) refl)))
      refl

  extended_is : (inner : Inner) → Fits inner → Shaped (extended e inner) false (AName ∷ []) []
  unfolding extended
  extended_is inner f =
      shaped_made _ _ _ _ _ _ _
      (shaped_seq _ _ _ _ _ _ _ _ _ _ name_is
      (shaped_seq _ _ _ _ _ _ _ _ _ _ (title_is word.Chart) (braced_is (parts e inner) _ _ (parts_are inner f) refl) refl)
      refl)

pub extended_text_is : (k : ℕ) → Shaped (extended_text k) false (AName ∷ []) []
unfolding extended_text
extended_text_is k =
    extended_is (expression k) (expression_is k) (within (expression k) (31 + k)) (within_fits (expression k) (expression_is k) (31 + k))
