-- The grammar of chart text.
--
--   chart       = "chart" name "{" { declaration } region { region } "}"
--   declaration = ("input" | "output" | "local") ("bool" | "int") name ";"
--   region      = "region" name "{" state { state } "}"
--   state       = [ "initial" ] [ "final" ] "state" name ( ";" | "{" inside )
--   inside      = [ region { region } ] { transition } "}"
--   transition  = ("go" | "strong" | "weak") [ "immediate" ] [ "if" expression ] [ effects ] "->" name ";"
--               | "join" [ effects ] "->" name ";"
--   effects     = "do" effect { "," effect }
--   effect      = name "=" expression
use Rattle.std.specs.Prelude.{ℕ, zero, suc, ◌+◌, Bool, false, Option, None, List, [], ◌∷◌}
use Rattle.grammar.specs.Grammar.{Grammar, one, seq, either, maybe, many, made, headed, barred}
use Rattle.sc_values.specs.declared.value.Kind.{Kind}
use Rattle.sc_graph.specs.declared.program.Role.{Role}
use Rattle.core_charts.specs.declared.region.TransitionKind.{TransitionKind}
use Rattle.core_charts.specs.Rules.{inner_depth_limit}
use Rattle.sc_text.specs.declared.word.Word.{Word}
use Rattle.sc_text.specs.declared.word.Word.TheVariants as word
use Rattle.sc_text.specs.declared.sign.Sign.{Sign}
use Rattle.sc_text.specs.declared.sign.Sign.TheVariants as sign
use Rattle.sc_text.specs.Classes.{Class, AName, TheWord, TheSign}
use Rattle.sc_text.specs.Phrases.{Phrase}
use Rattle.sc_text.specs.Expression.{text_tokens, after, before, expression}
use Rattle.sc_text.specs.declared.drafts.parts.Named.{Named}
use Rattle.sc_text.specs.declared.drafts.parts.TextExpression.{TextExpression}
use Rattle.sc_text.specs.declared.drafts.parts.Declaration.{Declaration}
use Rattle.chart_reader.specs.declared.text_drafts.draft.DraftEffect.{DraftEffect}
use Rattle.chart_reader.specs.declared.text_drafts.draft.DraftTransition.{DraftTransition}
use Rattle.chart_reader.specs.declared.text_drafts.draft.DraftRegion.{DraftRegion}
use Rattle.chart_reader.specs.declared.text_drafts.draft.DraftState.{DraftState}
use Rattle.chart_reader.specs.declared.text_drafts.draft.DraftChart.{DraftChart}
use Rattle.chart_reader.specs.Draft.{tested_by, is_there, effect_of, transition_of, state_of, region_of, chart_of}
use Rattle.sc_text.specs.DraftParts.{named, roles, kinds, role_of, kind_of, or_none, expressed, declared_as}

abbrev pub Grows : Type 0 → Type 1
Grows A = Grammar text_tokens A

abbrev pub the_word : Word → List Class
the_word w = TheWord w ∷ []

abbrev pub the_sign : Sign → List Class
the_sign s = TheSign s ∷ []

-- a name with its place, and one that a semicolon ends
abbrev pub name : Grows Named
name = made named (one (AName ∷ []))

unfoldable pub last_name : Grows Named
last_name = before name (the_sign sign.Semicolon)

abbrev pub declared_role : Grows Role
declared_role = made (λ t. role_of t.kind) (one roles)

abbrev pub declared_kind : Grows Kind
declared_kind = made (λ t. kind_of t.kind) (one kinds)

unfoldable pub declaration : Grows Declaration
declaration = made (λ x. declared_as x.0 x.1.0 x.1.1) (seq declared_role (seq declared_kind last_name))

-- an expression with the place of its first byte
unfoldable pub placed : Grows Phrase → Grows TextExpression
placed e = made expressed (headed e)

unfoldable pub effect : Grows Phrase → Grows DraftEffect
effect e = made (λ x. effect_of x.0 x.1) (seq name (after (the_sign sign.Becomes) (placed e)))

unfoldable pub next_effect : Grows Phrase → Grows DraftEffect
next_effect e = after (the_sign sign.Comma) (effect e)

-- a phrase and others behind it
abbrev pub listed : {A : Type 0} → Grows A → Grows A → Grows (List A)
listed g h = made (λ x. x.0 ∷ x.1) (seq g (many h))

unfoldable pub some_effects : Grows Phrase → Grows (List DraftEffect)
some_effects e = listed (effect e) (next_effect e)

unfoldable pub effects : Grows Phrase → Grows (List DraftEffect)
effects e = made or_none (maybe (after (the_word word.Do) (some_effects e)))

unfoldable pub target : Grows Named
target = after (the_sign sign.Arrow) last_name

unfoldable pub trigger : Grows Phrase → Grows (Option TextExpression)
trigger e = maybe (after (the_word word.If) (placed e))

-- what is done, and where a transition leads
unfoldable pub outcome : Grows Phrase → Grows (List DraftEffect × Named)
outcome e = seq (effects e) target

-- when a transition is tested, by its word, and the place of that
abbrev pub moment : List Class → Grows (TransitionKind × ℕ)
moment words = made (λ t. (tested_by t.kind, t.at)) (one words)

unfoldable pub termination : Grows Phrase → Grows DraftTransition
termination e = made (λ x. transition_of x.0 false None x.1.0 x.1.1) (seq (moment (the_word word.Join)) (outcome e))

abbrev pub tested_words : List Class
tested_words = TheWord word.Go ∷ TheWord word.Strong ∷ TheWord word.Weak ∷ []

-- whether a word stands there
unfoldable pub flag : Word → Grows Bool
flag w = made is_there (maybe (one (the_word w)))

unfoldable pub tested : Grows Phrase → Grows DraftTransition
tested e =
    made (λ x. transition_of x.0 x.1.0 x.1.1.0 x.1.1.1.0 x.1.1.1.1)
    (seq (moment tested_words) (seq (flag word.Immediate) (seq (trigger e) (outcome e))))

unfoldable pub transition : Grows Phrase → Grows DraftTransition
transition e = either (termination e) (tested e)

-- what begins a transition
abbrev pub transition_first : List Class
transition_first = TheWord word.Join ∷ tested_words

-- the transitions of a state, up to the brace that closes it
unfoldable pub leaving : Grows Phrase → Grows (List DraftTransition)
leaving e = before (many (transition e)) (the_sign sign.CloseBrace)

-- the regions within one more state: none, where no more of them may stand in one another
pub data Inner : Type 1 where
  NoMore : Inner
  Nested : (region : Grows DraftRegion) → Inner

unfoldable pub bare : Grows Phrase → Grows (List DraftRegion × List DraftTransition)
bare e = made (λ transitions. ([], transitions)) (leaving e)

unfoldable pub inside : Grows Phrase → Inner → Grows (List DraftRegion × List DraftTransition)
inside e NoMore = barred (the_word word.Region) (bare e)
inside e (Nested region) = either (seq (listed region region) (leaving e)) (bare e)

abbrev pub simple : Grows (List DraftRegion × List DraftTransition)
simple = made (λ t. ([], [])) (one (the_sign sign.Semicolon))

unfoldable pub body : Grows Phrase → Inner → Grows (List DraftRegion × List DraftTransition)
body e inner = either simple (after (the_sign sign.OpenBrace) (inside e inner))

-- what begins a state
abbrev pub state_first : List Class
state_first = TheWord word.Initial ∷ TheWord word.Final ∷ TheWord word.State ∷ []

unfoldable pub state : Grows Phrase → Inner → Grows DraftState
state e inner =
    made (λ x. state_of x.0 x.1.0 x.1.1.0 x.1.1.1)
    (seq (flag word.Initial) (seq (flag word.Final) (seq (after (the_word word.State) name) (body e inner))))

-- a phrase in braces
abbrev pub braced : {A : Type 0} → Grows A → Grows A
braced g = after (the_sign sign.OpenBrace) (before g (the_sign sign.CloseBrace))

unfoldable pub states : Grows Phrase → Inner → Grows (List DraftState)
states e inner = listed (state e inner) (state e inner)

unfoldable pub region : Grows Phrase → Inner → Grows DraftRegion
region e inner = made (λ x. region_of x.0 x.1) (seq (after (the_word word.Region) name) (braced (states e inner)))

-- within a state, where regions may stand so many levels deep in one another
unfoldable pub within : Grows Phrase → ℕ → Inner
within e zero = NoMore
within e (suc n) = Nested (region e (within e n))

-- a chart, where so many levels of regions may stand inside its own
unfoldable pub chart : Grows Phrase → Inner → Grows DraftChart
chart e inner =
    made (λ x. chart_of x.0 x.1.0 x.1.1)
    (seq (after (the_word word.Chart) name) (braced (seq (many declaration) (listed (region e inner) (region e inner)))))

-- the texts of charts, with k more levels of parentheses and of regions than are allowed
unfoldable pub chart_text : ℕ → Grows DraftChart
chart_text k = chart (expression k) (within (expression k) (inner_depth_limit + k))
