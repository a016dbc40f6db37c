-- What is wrong with a draft of an extended chart: the flaws of the chart without what is new, and those of what is new,
-- each with its place. A word and an item stand at their names, an expression at its first byte.
use Rattle.std.specs.Prelude.{ℕ, nat_eq, nat_lt, Bool, true, false, not, ◌&&◌, ◌||◌, ◌-◌, Option, Some, None, List, [], ◌∷◌, ◌++◌, map, codes, if◌then◌else◌}
use Rattle.std.specs.Option.{is_some}
use Rattle.std.specs.Str.{bytes_eq}
use Rattle.sc_values.specs.declared.value.Value.TheVariants as value
use Rattle.sc_values.specs.declared.value.Kind.{Kind}
use Rattle.sc_values.specs.declared.value.Kind.TheVariants as kind
use Rattle.sc_values.specs.declared.operator.UnaryOperator.TheVariants as unary
use Rattle.sc_text.specs.declared.operation.TextOperation.{TextOperation}
use Rattle.sc_text.specs.declared.operation.TextOperation.TheVariants as text
use Rattle.sc_text.specs.declared.read_fault.FaultKind.TheVariants as broken
use Rattle.sc_text.specs.Phrases.{Phrase}
use Rattle.sc_text.specs.declared.drafts.flaw.Flaw.{Flaw}
use Rattle.sc_text.specs.declared.drafts.parts.Named.{Named}
use Rattle.sc_text.specs.declared.drafts.parts.TextExpression.{TextExpression}
use Rattle.sc_text.specs.declared.drafts.parts.Declaration.{Declaration}
use Rattle.sc_text.specs.Flaws.{flaw_if, variable_named, expression_flaws, is_input, is_load}
use Rattle.chart_reader.specs.declared.text_drafts.draft.DraftEffect.{DraftEffect}
use Rattle.chart_reader.specs.declared.text_drafts.draft.DraftTransition.{DraftTransition}
use Rattle.chart_reader.specs.declared.text_drafts.draft.DraftRegion.{DraftRegion}
use Rattle.chart_reader.specs.declared.text_drafts.draft.DraftRegion.TheOpen.{DraftRegion-F, DraftState-F}
use Rattle.chart_reader.specs.declared.text_drafts.draft.DraftRegion.TheFolds.{fold-DraftRegion, fold-DraftState}
use Rattle.chart_reader.specs.declared.text_drafts.draft.DraftState.{DraftState}
use Rattle.chart_reader.specs.Flaws.{chart_flaws, effect_flaws, trigger_flaws}
use Rattle.extended_reader.specs.declared.text_drafts.draft.DraftItem.{DraftItem}
use Rattle.extended_reader.specs.declared.text_drafts.draft.DraftEntry.{DraftEntry}
use Rattle.extended_reader.specs.declared.text_drafts.draft.StateActions.{StateActions}
use Rattle.extended_reader.specs.declared.text_drafts.draft.DraftCount.{DraftCount}
use Rattle.extended_reader.specs.declared.text_drafts.draft.DraftDelay.{DraftDelay}
use Rattle.extended_reader.specs.declared.text_drafts.draft.HistoryWords.{HistoryWords}
use Rattle.extended_reader.specs.declared.text_drafts.draft.DraftWay.{DraftWay}
use Rattle.extended_reader.specs.declared.text_drafts.draft.ExtendedDraft.{ExtendedDraft}
use Rattle.extended_reader.specs.Targets.{simple_targets}

-- the flaws of some parts, one part behind the other
abbrev pub joined : List (List Flaw) → List Flaw
joined [] = []
joined (f ∷ flaws) = f ++ joined flaws

-- another word is meant
abbrev pub word_flaws : (meant : List ℕ) → Named → List Flaw
word_flaws meant word = flaw_if (not (bytes_eq word.name meant)) broken.Grammar word.at

-- ---- items

-- the variables of the text, signals among them: neither constants nor what variables were
abbrev pub plain_one : Option Named → Declaration → List Declaration
plain_one None x = x ∷ []
plain_one (Some word) x = []

abbrev pub plain_variables : List DraftItem → List Declaration
plain_variables [] = []
plain_variables (x ∷ items) = plain_one x.word x.declared ++ plain_variables items

abbrev pub is_truth : TextOperation → Bool
is_truth (text.Literal (value.Bool b)) = true
is_truth o = false

abbrev pub is_number : TextOperation → Bool
is_number (text.Literal (value.Int n)) = true
is_number o = false

abbrev pub is_minus : TextOperation → Bool
is_minus (text.Unary unary.Negate) = true
is_minus o = false

-- a literal of this kind; a number may stand under a minus
abbrev pub is_literal_of : Kind → Phrase → Bool
is_literal_of kind.Bool (o ∷ []) = is_truth o
is_literal_of kind.Int (o ∷ []) = is_number o
is_literal_of kind.Int (o ∷ m ∷ []) = is_number o && is_minus m
is_literal_of k p = false

abbrev pub literal_flaws : Kind → TextExpression → List Flaw
literal_flaws k e = flaw_if (not (is_literal_of k e.operations)) broken.Kind e.start

-- the value of a variable: an input has none
abbrev pub initial_flaws : Declaration → Option TextExpression → List Flaw
initial_flaws x None = []
initial_flaws x (Some e) = if is_input x.role then flaw_if true broken.Rule x.named.at else literal_flaws x.kind e

abbrev pub constant_flaws : Declaration → Option TextExpression → List Flaw
constant_flaws x None = flaw_if true broken.Rule x.named.at
constant_flaws x (Some e) = literal_flaws x.kind e

abbrev pub is_name : Phrase → Bool
is_name (o ∷ []) = is_load o
is_name p = false

-- what a variable was is named by the variable, which is of the same kind
abbrev pub before_flaws : List Declaration → Declaration → Option TextExpression → List Flaw
before_flaws variables x None = flaw_if true broken.Rule x.named.at
before_flaws variables x (Some e) =
    if is_name e.operations then expression_flaws variables (Some x.kind) e else flaw_if true broken.Kind e.start

abbrev pub worded_flaws : List Declaration → Named → Declaration → Option TextExpression → List Flaw
worded_flaws variables word x e =
    if bytes_eq word.name (codes "const") then constant_flaws x e
    else (if bytes_eq word.name (codes "pre") then before_flaws variables x e else flaw_if true broken.Grammar word.at)

abbrev pub headed_flaws : List Declaration → Option Named → Declaration → Option TextExpression → List Flaw
headed_flaws variables None x e = initial_flaws x e
headed_flaws variables (Some word) x e = worded_flaws variables word x e

-- the word before the name of a signal. No input is one
abbrev pub signal_flaws : Option Named → Declaration → List Flaw
signal_flaws None x = []
signal_flaws (Some word) x = flaw_if (not (bytes_eq word.name (codes "signal")) || is_input x.role) broken.Grammar word.at

abbrev pub item_flaws : List Declaration → DraftItem → List Flaw
item_flaws variables x = signal_flaws x.signal x.declared ++ headed_flaws variables x.word x.declared x.value

-- ---- signals

abbrev pub one_signal : Option Named → Declaration → List Declaration
one_signal None x = []
one_signal (Some word) x = x ∷ []

-- the signals of the text
abbrev pub signals : List DraftItem → List Declaration
signals [] = []
signals (x ∷ items) = one_signal x.signal x.declared ++ signals items

-- one of two, and not both
abbrev pub differ : Bool → Bool → Bool
differ true b = not b
differ false b = b

-- the `=` of a combination stands right behind its operator, where what is combined begins. All else begins no sooner than
-- its value
abbrev pub is_parted : ℕ → Phrase → Bool
is_parted equals (text.Load n at ∷ p) = nat_lt at equals && nat_lt 1 (equals - at)
is_parted equals p = false

abbrev pub combination_flaws : TextExpression → List Flaw
combination_flaws e = flaw_if (is_parted e.start e.operations) broken.Grammar e.start

-- A signal is emitted and not assigned to, and nothing else is emitted. What an emission becomes starts at its name, and
-- before that where its word is another
abbrev pub signalling_flaws : List Declaration → DraftEffect → List Flaw
signalling_flaws signals e =
    if nat_lt e.value.start e.variable.at then flaw_if true broken.Grammar e.value.start
    else flaw_if (differ (is_some (variable_named signals e.variable.name)) (nat_eq e.value.start e.variable.at)) broken.Rule e.variable.at

abbrev pub emission_flaws : List Declaration → DraftEffect → List Flaw
emission_flaws signals e = combination_flaws e.value ++ signalling_flaws signals e

abbrev pub emissions_flaws : List Declaration → List DraftEffect → List Flaw
emissions_flaws signals effects = joined (map (emission_flaws signals) effects)

-- ---- actions, and what transitions wait for

-- The word before an action tells whether it is made when its state is entered, when it is left, or while it goes on. Where
-- `immediate` or a trigger stands, it is the last
abbrev pub is_action_word : (is_bare : Bool) → List ℕ → Bool
is_action_word is_bare word =
    bytes_eq word (codes "during") || (is_bare && (bytes_eq word (codes "entry") || bytes_eq word (codes "exit")))

abbrev pub is_bare : DraftEntry → Bool
is_bare e = not (e.immediate || is_some e.trigger)

abbrev pub action_word_flaws : DraftEntry → List Flaw
action_word_flaws e = flaw_if (not (is_action_word (is_bare e) e.word.name)) broken.Grammar e.word.at

-- nothing is made while a state goes on that may not
abbrev pub during_flaws : (may_last : Bool) → Named → List Flaw
during_flaws may_last word = flaw_if (not may_last && bytes_eq word.name (codes "during")) broken.Rule word.at

-- what is made, and when
abbrev pub made_flaws : (variables signals : List Declaration) → DraftEntry → List Flaw
made_flaws variables signals e =
    trigger_flaws variables e.trigger ++ (effect_flaws variables 0 e.effects ++ emissions_flaws signals e.effects)

abbrev pub entry_flaws : (variables signals : List Declaration) → (may_last : Bool) → DraftEntry → List Flaw
entry_flaws variables signals may_last e =
    action_word_flaws e ++ (during_flaws may_last e.word ++ made_flaws variables signals e)

abbrev pub entries_flaws : (variables signals : List Declaration) → StateActions → List Flaw
entries_flaws variables signals a = joined (map (entry_flaws variables signals a.may_last) a.entries)

-- behind a word ticks are waited for, and behind none a termination waits for its trigger
abbrev pub until_flaws : List Declaration → Option Named → TextExpression → List Flaw
until_flaws variables None e = expression_flaws variables (Some kind.Bool) e
until_flaws variables (Some word) e = word_flaws (codes "after") word ++ expression_flaws variables (Some kind.Int) e

-- a condition of which ticks are counted
abbrev pub count_flaws : List Declaration → Option DraftCount → List Flaw
count_flaws variables None = []
count_flaws variables (Some c) = word_flaws (codes "of") c.word ++ expression_flaws variables (Some kind.Bool) c.condition

abbrev pub delay_flaws : List Declaration → Option DraftDelay → List Flaw
delay_flaws variables None = []
delay_flaws variables (Some d) = until_flaws variables d.word d.until ++ count_flaws variables d.count

-- the words before a target that is entered by its history
abbrev pub words_flaws : Option HistoryWords → List Flaw
words_flaws None = []
words_flaws (Some w) = word_flaws (codes "shallow") w.shallow ++ word_flaws (codes "history") w.history

-- what is new of a transition
abbrev pub way_flaws : List Declaration → DraftWay → List Flaw
way_flaws variables w = delay_flaws variables w.delay ++ words_flaws w.history

-- no state without regions is entered by its history. Its name stands at this place, or the target is none
abbrev pub history_flaw : Option HistoryWords → Option ℕ → List Flaw
history_flaw words None = []
history_flaw words (Some at) = flaw_if (is_some words) broken.Rule at

abbrev pub history_flaws : List DraftWay → List (Option ℕ) → List Flaw
history_flaws [] places = []
history_flaws (w ∷ ways) [] = []
history_flaws (w ∷ ways) (at ∷ places) = history_flaw w.history at ++ history_flaws ways places

-- what is new of the transitions of these regions
abbrev pub all_way_flaws : List Declaration → List DraftRegion → List DraftWay → List Flaw
all_way_flaws variables regions ways = joined (map (way_flaws variables) ways) ++ history_flaws ways (simple_targets regions)

-- ---- names: two underscores inside are of names that reductions make

abbrev pub is_underscore : ℕ → Bool
is_underscore byte = nat_eq byte 95

-- two of them stand side by side, or one stands first, where one stood before
abbrev pub is_doubled : Bool → List ℕ → Bool
is_doubled before [] = false
is_doubled before (b ∷ bytes) = (before && is_underscore b) || is_doubled (is_underscore b) bytes

abbrev pub name_flaws : Named → List Flaw
name_flaws n = flaw_if (is_doubled false n.name) broken.Token n.at

abbrev pub variable_name_flaws : List Declaration → List Flaw
variable_name_flaws variables = joined (map (λ x. name_flaws x.named) variables)

-- ---- regions and states: their names, and what their transitions emit

abbrev pub ways_flaws : (signals : List Declaration) → List DraftTransition → List Flaw
ways_flaws signals transitions = joined (map (λ t. emissions_flaws signals t.effects) transitions)

abbrev pub state_step : (signals : List Declaration) → DraftState-F (List Flaw) (List Flaw) → List Flaw
state_step signals s = name_flaws s.named ++ (joined s.regions ++ ways_flaws signals s.transitions)

abbrev pub region_step : DraftRegion-F (List Flaw) (List Flaw) → List Flaw
region_step r = name_flaws r.named ++ joined r.states

-- those of a region, or of a state, and of all that is in it
abbrev pub region_inside_flaws : (signals : List Declaration) → DraftRegion → List Flaw
region_inside_flaws signals = fold-DraftRegion (List Flaw) (List Flaw) region_step (state_step signals)

abbrev pub state_inside_flaws : (signals : List Declaration) → DraftState → List Flaw
state_inside_flaws signals = fold-DraftState (List Flaw) (List Flaw) region_step (state_step signals)

-- ---- whole drafts

-- what is wrong with what is new, by the variables of the core
abbrev pub new_flaws : ExtendedDraft → List Flaw
new_flaws d =
    word_flaws (codes "extended") d.word
    ++ (joined (map (item_flaws (plain_variables d.items)) d.items)
    ++ (joined (map (entries_flaws d.core.variables (signals d.items)) d.rows.entries)
    ++ (all_way_flaws d.core.variables d.core.regions d.rows.ways
    ++ (variable_name_flaws d.core.variables
    ++ joined (map (region_inside_flaws (signals d.items)) d.core.regions)))))

abbrev pub extended_flaws : ExtendedDraft → List Flaw
extended_flaws d = chart_flaws d.core ++ new_flaws d
