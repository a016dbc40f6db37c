-- The grammar of extended chart text. What isn't named is as in the grammar of chart text. Where `word` stands, charts have
-- no name, and any name may stand: that it is the right word is no matter of the grammar.
--
--   extended    = word "chart" name "{" { item } region { region } "}"
--   item        = ( "input" | "output" | "local" ) ( kind name value ";" | word name ";" )
--               | word ( kind name value ";" | name ";" )
--   kind        = "bool" | "int"
--   value       = [ "=" expression ]
--   region      = "region" name "{" state { state } "}"
--   state       = [ "initial" ] [ "final" ] "state" name ( ";" | "{" { entry } inside )
--   entry       = [ "immediate" ] word [ "if" expression ] "do" effect { "," effect } ";"
--   inside      = [ region { region } ] { transition } "}"
--   transition  = ( "go" | "strong" | "weak" ) [ "immediate" | delay ] [ "if" expression ] [ effects ] "->" lead ";"
--               | "join" [ "if" expression ] [ effects ] "->" lead ";"
--   delay       = word expression [ word expression ]
--   lead        = name | word word name
--   effects     = "do" effect { "," effect }
--   effect      = name ( "=" expression | ( "+" | "-" | "*" ) "=" expression | name )
use Rattle.std.specs.Prelude.{ℕ, zero, suc, ◌+◌, Bool, true, false, Option, Some, None, List, [], ◌∷◌}
use Rattle.grammar.specs.Grammar.{one, seq, either, maybe, many, made, barred}
use Rattle.core_charts.specs.Rules.{inner_depth_limit}
use Rattle.sc_values.specs.declared.operator.BinaryOperator.{BinaryOperator}
use Rattle.sc_text.specs.declared.word.Word.TheVariants as word
use Rattle.sc_text.specs.declared.sign.Sign.TheVariants as sign
use Rattle.sc_text.specs.Classes.{Class, AName, TheWord, TheSign}
use Rattle.sc_text.specs.Phrases.{Phrase}
use Rattle.sc_text.specs.Expression.{after, before, expression}
use Rattle.sc_text.specs.declared.drafts.parts.Named.{Named}
use Rattle.sc_text.specs.declared.drafts.parts.TextExpression.{TextExpression}
use Rattle.sc_text.specs.DraftParts.{or_none}
use Rattle.chart_reader.specs.declared.text_drafts.draft.DraftEffect.{DraftEffect}
use Rattle.chart_reader.specs.declared.text_drafts.draft.DraftTransition.{DraftTransition}
use Rattle.chart_reader.specs.declared.text_drafts.draft.DraftRegion.{DraftRegion}
use Rattle.chart_reader.specs.declared.text_drafts.draft.DraftState.{DraftState}
use Rattle.chart_reader.specs.ChartText.{Grows, the_word, the_sign, name, last_name, declared_role, declared_kind, placed, trigger, moment}
use Rattle.chart_reader.specs.ChartText.{tested_words, flag, listed, braced}
use Rattle.extended_reader.specs.declared.text_drafts.draft.ItemBody.{ItemBody}
use Rattle.extended_reader.specs.declared.text_drafts.draft.DraftItem.{DraftItem}
use Rattle.extended_reader.specs.declared.text_drafts.draft.CompoundSign.{CompoundSign}
use Rattle.extended_reader.specs.declared.text_drafts.draft.EffectEnd.{EffectEnd}
use Rattle.extended_reader.specs.declared.text_drafts.draft.EffectEnd.TheVariants as ends
use Rattle.extended_reader.specs.declared.text_drafts.draft.DraftEntry.{DraftEntry}
use Rattle.extended_reader.specs.declared.text_drafts.draft.DraftCount.{DraftCount}
use Rattle.extended_reader.specs.declared.text_drafts.draft.DraftDelay.{DraftDelay}
use Rattle.extended_reader.specs.declared.text_drafts.draft.DraftLead.{DraftLead}
use Rattle.extended_reader.specs.declared.text_drafts.draft.DraftWay.{DraftWay}
use Rattle.extended_reader.specs.declared.text_drafts.draft.DraftRows.{DraftRows}
use Rattle.extended_reader.specs.declared.text_drafts.draft.ExtendedDraft.{ExtendedDraft}
use Rattle.extended_reader.specs.Draft.{StateBody, typed_body, signal_body, plain_item, worded_item, combined_by, combination, effect_with}
use Rattle.extended_reader.specs.Draft.{entry_of, count_of, delay_of}
use Rattle.extended_reader.specs.Draft.{or_next, lead_of, delayed, ended, no_rows}
use Rattle.extended_reader.specs.Draft.{gathered, parted, body_of, state_with, region_with, draft_of}

-- ---- items

-- what begins an item
abbrev pub item_first : List Class
item_first = TheWord word.Input ∷ TheWord word.Output ∷ TheWord word.Local ∷ AName ∷ []

unfoldable pub item_value : Grows Phrase → Grows (Option TextExpression)
item_value e = maybe (after (the_sign sign.Becomes) (placed e))

unfoldable pub last_value : Grows Phrase → Grows (Option TextExpression)
last_value e = before (item_value e) (the_sign sign.Semicolon)

-- what has a kind, and may have a value
unfoldable pub typed : Grows Phrase → Grows ItemBody
typed e = made (λ x. typed_body x.0 x.1.0 x.1.1) (seq declared_kind (seq name (last_value e)))

-- a signal behind `output` or `local`, and one behind its word alone
unfoldable pub signalled : Grows ItemBody
signalled = made (λ x. signal_body x.0 x.1) (seq name last_name)

unfoldable pub bare_signal : Grows ItemBody
bare_signal = made (λ n. signal_body n n) last_name

unfoldable pub plain_body : Grows Phrase → Grows ItemBody
plain_body e = either signalled (typed e)

unfoldable pub worded_body : Grows Phrase → Grows ItemBody
worded_body e = either bare_signal (typed e)

unfoldable pub plain : Grows Phrase → Grows DraftItem
plain e = made (λ x. plain_item x.0 x.1) (seq declared_role (plain_body e))

unfoldable pub worded : Grows Phrase → Grows DraftItem
worded e = made (λ x. worded_item x.0 x.1) (seq name (worded_body e))

unfoldable pub item : Grows Phrase → Grows DraftItem
item e = either (plain e) (worded e)

-- ---- effects

abbrev pub to_value : TextExpression → EffectEnd
to_value e = ends.Value e

abbrev pub to_name : Named → EffectEnd
to_name n = ends.Name n

unfoldable pub becoming : Grows Phrase → Grows EffectEnd
becoming e = made to_value (after (the_sign sign.Becomes) (placed e))

-- the operators that stand before `=`
abbrev pub combining_signs : List Class
combining_signs = TheSign sign.Plus ∷ TheSign sign.Minus ∷ TheSign sign.Star ∷ []

abbrev pub combiner : Grows (BinaryOperator × ℕ)
combiner = made (λ t. (combined_by t.kind, t.at)) (one combining_signs)

abbrev pub equals : Grows ℕ
equals = made (λ t. t.at) (one (the_sign sign.Becomes))

unfoldable pub combining : Grows Phrase → Grows CompoundSign
combining e = made (λ x. combination x.0 x.1.0 x.1.1) (seq combiner (seq equals (placed e)))

abbrev pub to_combination : CompoundSign → EffectEnd
to_combination c = ends.Combined c

unfoldable pub combined : Grows Phrase → Grows EffectEnd
combined e = made to_combination (combining e)

unfoldable pub emitting : Grows EffectEnd
emitting = made to_name name

unfoldable pub effect_end : Grows Phrase → Grows EffectEnd
effect_end e = either (becoming e) (either (combined e) emitting)

unfoldable pub effect : Grows Phrase → Grows DraftEffect
effect e = made (λ x. effect_with x.0 x.1) (seq name (effect_end e))

unfoldable pub next_effect : Grows Phrase → Grows DraftEffect
next_effect e = after (the_sign sign.Comma) (effect e)

unfoldable pub some_effects : Grows Phrase → Grows (List DraftEffect)
some_effects e = listed (effect e) (next_effect e)

unfoldable pub effects : Grows Phrase → Grows (List DraftEffect)
effects e = made or_none (maybe (after (the_word word.Do) (some_effects e)))

-- ---- where transitions lead

unfoldable pub two_names : Grows (Named × Named)
two_names = seq name name

unfoldable pub two_more : Grows (Option (Named × Named))
two_more = maybe two_names

unfoldable pub lead : Grows DraftLead
lead = made (λ x. lead_of x.0 x.1) (seq name two_more)

unfoldable pub last_lead : Grows DraftLead
last_lead = before lead (the_sign sign.Semicolon)

unfoldable pub leading : Grows DraftLead
leading = after (the_sign sign.Arrow) last_lead

-- what is done, and where a transition leads
unfoldable pub outcome : Grows Phrase → Grows (List DraftEffect × DraftLead)
outcome e = seq (effects e) leading

-- ---- actions and transitions

unfoldable pub last_effects : Grows Phrase → Grows (List DraftEffect)
last_effects e = before (some_effects e) (the_sign sign.Semicolon)

unfoldable pub entry : Grows Phrase → Grows DraftEntry
entry e =
    made (λ x. entry_of x.0 x.1.0 x.1.1.0 x.1.1.1)
    (seq (flag word.Immediate) (seq name (seq (trigger e) (after (the_word word.Do) (last_effects e)))))

-- what begins an action
abbrev pub entry_first : List Class
entry_first = TheWord word.Immediate ∷ AName ∷ []

-- behind the ticks, the condition of which they are counted
unfoldable pub some_count : Grows Phrase → Grows DraftCount
some_count e = made (λ x. count_of x.0 x.1) (seq name (placed e))

unfoldable pub counted : Grows Phrase → Grows (Option DraftCount)
counted e = maybe (some_count e)

unfoldable pub some_delay : Grows Phrase → Grows DraftDelay
some_delay e = made (λ x. delay_of x.0 x.1.0 x.1.1) (seq name (seq (placed e) (counted e)))

unfoldable pub at_once : Grows (Bool × Option DraftDelay)
at_once = made (λ t. (true, None)) (one (the_word word.Immediate))

unfoldable pub waiting : Grows Phrase → Grows (Bool × Option DraftDelay)
waiting e = made (λ d. (false, Some d)) (some_delay e)

unfoldable pub pause : Grows Phrase → Grows (Bool × Option DraftDelay)
pause e = made or_next (maybe (either at_once (waiting e)))

-- what begins a pause
abbrev pub pause_first : List Class
pause_first = TheWord word.Immediate ∷ AName ∷ []

unfoldable pub tested : Grows Phrase → Grows (DraftTransition × DraftWay)
tested e =
    made (λ x. delayed x.0 x.1.0 x.1.1.0 x.1.1.1)
    (seq (moment tested_words) (seq (pause e) (seq (trigger e) (outcome e))))

unfoldable pub termination : Grows Phrase → Grows (DraftTransition × DraftWay)
termination e = made (λ x. ended x.0 x.1.0 x.1.1) (seq (moment (the_word word.Join)) (seq (trigger e) (outcome e)))

unfoldable pub transition : Grows Phrase → Grows (DraftTransition × DraftWay)
transition e = either (termination e) (tested e)

unfoldable pub transitions : Grows Phrase → Grows (List DraftTransition × List DraftWay)
transitions e = made parted (many (transition e))

-- the transitions of a state, up to the brace that closes it
unfoldable pub leaving : Grows Phrase → Grows (List DraftTransition × List DraftWay)
leaving e = before (transitions e) (the_sign sign.CloseBrace)

-- ---- states and regions

-- the regions within one more state: none, where no more of them may stand in one another
pub data Inner : Type 1 where
  NoMore : Inner
  Nested : (region : Grows (DraftRegion × DraftRows)) → Inner

-- parts of one kind, with their rows
abbrev pub rowed : {A : Type 0} → Grows (A × DraftRows) → Grows (List A × DraftRows)
rowed g = made gathered (listed g g)

unfoldable pub bare : Grows Phrase → Grows StateBody
bare e = made (λ x. body_of ([], no_rows) x) (leaving e)

unfoldable pub nested : Grows Phrase → Grows (DraftRegion × DraftRows) → Grows StateBody
nested e region = made (λ x. body_of x.0 x.1) (seq (rowed region) (leaving e))

unfoldable pub inside : Grows Phrase → Inner → Grows StateBody
inside e NoMore = barred (the_word word.Region) (bare e)
inside e (Nested region) = either (nested e region) (bare e)

abbrev pub simple : Grows (List DraftEntry × StateBody)
simple = made (λ t. ([], body_of ([], no_rows) ([], []))) (one (the_sign sign.Semicolon))

unfoldable pub acting : Grows Phrase → Inner → Grows (List DraftEntry × StateBody)
acting e inner = seq (many (entry e)) (inside e inner)

unfoldable pub body : Grows Phrase → Inner → Grows (List DraftEntry × StateBody)
body e inner = either simple (after (the_sign sign.OpenBrace) (acting e inner))

unfoldable pub state : Grows Phrase → Inner → Grows (DraftState × DraftRows)
state e inner =
    made (λ x. state_with x.0 x.1.0 x.1.1.0 x.1.1.1)
    (seq (flag word.Initial) (seq (flag word.Final) (seq (after (the_word word.State) name) (body e inner))))

unfoldable pub region : Grows Phrase → Inner → Grows (DraftRegion × DraftRows)
region e inner =
    made (λ x. region_with x.0 x.1) (seq (after (the_word word.Region) name) (braced (rowed (state e inner))))

-- within a state, where regions may stand so many levels deep in one another
unfoldable pub within : Grows Phrase → ℕ → Inner
within e zero = NoMore
within e (suc n) = Nested (region e (within e n))

-- ---- charts

unfoldable pub parts : Grows Phrase → Inner → Grows (List DraftItem × (List DraftRegion × DraftRows))
parts e inner = seq (many (item e)) (rowed (region e inner))

-- an extended chart, where so many levels of regions may stand inside its own
unfoldable pub extended : Grows Phrase → Inner → Grows ExtendedDraft
extended e inner =
    made (λ x. draft_of x.0 x.1.0 x.1.1)
    (seq name (seq (after (the_word word.Chart) name) (braced (parts e inner))))

-- the texts of extended charts, with k more levels of parentheses and of regions than are allowed
unfoldable pub extended_text : ℕ → Grows ExtendedDraft
extended_text k = extended (expression k) (within (expression k) (inner_depth_limit + k))
