-- What the parts of a chart's text mean: its parts with their places.
use Rattle.std.specs.Prelude.{ℕ, Bool, true, false, Option, Some, None, List}
use Rattle.sc_text.specs.declared.word.Word.TheVariants as word
use Rattle.sc_text.specs.declared.token.Token.{Token}
use Rattle.sc_text.specs.declared.token.TokenKind.{TokenKind}
use Rattle.sc_text.specs.declared.token.TokenKind.TheVariants as token
use Rattle.core_charts.specs.declared.region.TransitionKind.{TransitionKind}
use Rattle.core_charts.specs.declared.region.TransitionKind.TheVariants as transition
use Rattle.sc_text.specs.declared.drafts.parts.Named.{Named}
use Rattle.sc_text.specs.declared.drafts.parts.TextExpression.{TextExpression}
use Rattle.sc_text.specs.declared.drafts.parts.Declaration.{Declaration}
use Rattle.chart_reader.specs.declared.text_drafts.draft.DraftEffect.{DraftEffect}
use Rattle.chart_reader.specs.declared.text_drafts.draft.DraftTransition.{DraftTransition}
use Rattle.chart_reader.specs.declared.text_drafts.draft.DraftRegion.{DraftRegion}
use Rattle.chart_reader.specs.declared.text_drafts.draft.DraftRegion.TheViews.{roll-DraftRegion, roll-DraftState}
use Rattle.chart_reader.specs.declared.text_drafts.draft.DraftState.{DraftState}
use Rattle.chart_reader.specs.declared.text_drafts.draft.DraftChart.{DraftChart}

-- the words that tell when a transition is tested
abbrev pub tested_by : TokenKind → TransitionKind
tested_by (token.Word word.Strong) = transition.Strong
tested_by (token.Word word.Weak) = transition.Weak
tested_by (token.Word word.Join) = transition.Join
tested_by k = transition.Go

-- whether a word stands there
abbrev pub is_there : Option Token → Bool
is_there None = false
is_there (Some t) = true

abbrev pub effect_of : Named → TextExpression → DraftEffect
effect_of n e = record { variable = n; value = e }

-- a transition, by its kind and the place of the word that tells it
abbrev pub transition_of : TransitionKind × ℕ → Bool → Option TextExpression → List DraftEffect → Named → DraftTransition
transition_of moment immediate trigger effects target =
    record { kind = moment.0; at = moment.1; immediate = immediate; trigger = trigger; effects = effects; target = target }

abbrev pub state_of : Bool → Bool → Named → List DraftRegion × List DraftTransition → DraftState
state_of is_initial is_final n inside =
    roll-DraftState (record { is_initial = is_initial; is_final = is_final; named = n; regions = inside.0; transitions = inside.1 })

abbrev pub region_of : Named → List DraftState → DraftRegion
region_of n states = roll-DraftRegion (record { named = n; states = states })

abbrev pub chart_of : Named → List Declaration → List DraftRegion → DraftChart
chart_of n variables regions = record { named = n; variables = variables; regions = regions }
