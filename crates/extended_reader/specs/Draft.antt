-- What the parts of an extended chart's text mean: the parts of a chart, with what is new beside them.
use Rattle.std.specs.Prelude.{ℕ, Bool, true, false, not, Option, Some, None, List, [], ◌∷◌, ◌++◌, map, codes, option_map, if◌then◌else◌}
use Rattle.std.specs.Str.{bytes_eq}
use Rattle.sc_values.specs.declared.value.Value.TheVariants as value
use Rattle.sc_values.specs.declared.value.Kind.{Kind}
use Rattle.sc_values.specs.declared.value.Kind.TheVariants as kind
use Rattle.sc_values.specs.declared.operator.BinaryOperator.{BinaryOperator}
use Rattle.sc_values.specs.declared.operator.BinaryOperator.TheVariants as operator
use Rattle.sc_graph.specs.declared.program.Role.{Role}
use Rattle.sc_graph.specs.declared.program.Role.TheVariants as role
use Rattle.sc_text.specs.declared.sign.Sign.TheVariants as sign
use Rattle.sc_text.specs.declared.token.TokenKind.{TokenKind}
use Rattle.sc_text.specs.declared.token.TokenKind.TheVariants as token
use Rattle.sc_text.specs.declared.operation.TextOperation.TheVariants as text
use Rattle.core_charts.specs.declared.region.TransitionKind.{TransitionKind}
use Rattle.sc_text.specs.declared.drafts.parts.Named.{Named}
use Rattle.sc_text.specs.declared.drafts.parts.TextExpression.{TextExpression}
use Rattle.sc_text.specs.DraftParts.{declared_as}
use Rattle.chart_reader.specs.declared.text_drafts.draft.DraftEffect.{DraftEffect}
use Rattle.chart_reader.specs.declared.text_drafts.draft.DraftTransition.{DraftTransition}
use Rattle.chart_reader.specs.declared.text_drafts.draft.DraftRegion.{DraftRegion}
use Rattle.chart_reader.specs.declared.text_drafts.draft.DraftState.{DraftState}
use Rattle.chart_reader.specs.Draft.{effect_of, transition_of, state_of, region_of, chart_of}
use Rattle.extended_reader.specs.declared.text_drafts.draft.ItemBody.{ItemBody}
use Rattle.extended_reader.specs.declared.text_drafts.draft.DraftItem.{DraftItem}
use Rattle.extended_reader.specs.declared.text_drafts.draft.CompoundSign.{CompoundSign}
use Rattle.extended_reader.specs.declared.text_drafts.draft.EffectEnd.{EffectEnd}
use Rattle.extended_reader.specs.declared.text_drafts.draft.EffectEnd.TheVariants as ends
use Rattle.extended_reader.specs.declared.text_drafts.draft.DraftEntry.{DraftEntry}
use Rattle.extended_reader.specs.declared.text_drafts.draft.StateActions.{StateActions}
use Rattle.extended_reader.specs.declared.text_drafts.draft.DraftCount.{DraftCount}
use Rattle.extended_reader.specs.declared.text_drafts.draft.DraftDelay.{DraftDelay}
use Rattle.extended_reader.specs.declared.text_drafts.draft.DraftLead.{DraftLead}
use Rattle.extended_reader.specs.declared.text_drafts.draft.DraftWay.{DraftWay}
use Rattle.extended_reader.specs.declared.text_drafts.draft.DraftRows.{DraftRows}
use Rattle.extended_reader.specs.declared.text_drafts.draft.ExtendedDraft.{ExtendedDraft}

-- ---- items

abbrev pub typed_body : Kind → Named → Option TextExpression → ItemBody
typed_body k n v = record { kind = k; signal = None; named = n; value = v }

-- a signal behind this word
abbrev pub signal_body : Named → Named → ItemBody
signal_body word n = record { kind = kind.Bool; signal = Some word; named = n; value = None }

abbrev pub plain_item : Role → ItemBody → DraftItem
plain_item r b = record { declared = declared_as r b.kind b.named; word = None; signal = b.signal; value = b.value }

-- what stands behind a word that charts don't have: without a kind it is a signal, and a local one
abbrev pub worded_with : Named → Option Named → ItemBody → DraftItem
worded_with word None b = record { declared = declared_as role.Input b.kind b.named; word = Some word; signal = None; value = b.value }
worded_with word (Some n) b = record { declared = declared_as role.Local b.kind b.named; word = None; signal = Some word; value = b.value }

abbrev pub worded_item : Named → ItemBody → DraftItem
worded_item word b = worded_with word b.signal b

-- ---- effects

-- what a name becomes behind a word: itself or true. It starts at the name behind `emit`, and at another word itself
abbrev pub emitted : Named → Named → TextExpression
emitted word n =
    record {
      start = if bytes_eq word.name (codes "emit") then n.at else word.at;
      operations = text.Load n.name n.at ∷ text.Literal (value.Bool true) ∷ text.Binary operator.Or ∷ [];
    }

-- the operator that a token writes before `=`
abbrev pub combined_by : TokenKind → BinaryOperator
combined_by (token.Sign sign.Minus) = operator.Subtract
combined_by (token.Sign sign.Star) = operator.Multiply
combined_by k = operator.Add

abbrev pub combination : BinaryOperator × ℕ → ℕ → TextExpression → CompoundSign
combination operator equals e = record { operator = operator.0; at = operator.1; equals = equals; operand = e }

-- What a name becomes that is combined with an operand: it is the left one, and stands at the operator. It starts at the `=`
abbrev pub combined : Named → CompoundSign → TextExpression
combined n c =
    record { start = c.equals; operations = text.Load n.name c.at ∷ (c.operand.operations ++ text.Binary c.operator ∷ []) }

-- an effect, by its first name and what stands behind that
abbrev pub effect_with : Named → EffectEnd → DraftEffect
effect_with n (ends.Value e) = effect_of n e
effect_with n (ends.Combined c) = effect_of n (combined n c)
effect_with word (ends.Name n) = effect_of n (emitted word n)

-- ---- actions and transitions

abbrev pub entry_of : Bool → Named → Option TextExpression → List DraftEffect → DraftEntry
entry_of immediate word trigger effects = record { immediate = immediate; word = word; trigger = trigger; effects = effects }

-- the actions of a state: some may be made while it goes on, where it is not final
abbrev pub actions_of : Bool → List DraftEntry → StateActions
actions_of is_final entries = record { entries = entries; may_last = not is_final }

abbrev pub count_of : Named → TextExpression → DraftCount
count_of word condition = record { word = word; condition = condition }

-- so many ticks, of all or of those of a count
abbrev pub delay_of : Named → TextExpression → Option DraftCount → DraftDelay
delay_of word ticks count = record { word = Some word; until = ticks; count = count }

-- when a transition that stands so is tested first: at once, behind some ticks, or in the next tick
abbrev pub or_next : Option (Bool × Option DraftDelay) → Bool × Option DraftDelay
or_next None = (false, None)
or_next (Some pause) = pause

-- where a transition leads: to its one name, or behind two words to the last of three
abbrev pub lead_of : Named → Option (Named × Named) → DraftLead
lead_of n None = record { history = None; target = n }
lead_of word (Some more) = record { history = Some (record { shallow = word; history = more.0 }); target = more.1 }

abbrev pub way_of : Option DraftDelay → DraftLead → DraftWay
way_of delay lead = record { delay = delay; history = lead.history }

abbrev pub delayed : TransitionKind × ℕ → Bool × Option DraftDelay → Option TextExpression → List DraftEffect × DraftLead → DraftTransition × DraftWay
delayed moment pause trigger outcome = (transition_of moment pause.0 trigger outcome.0 outcome.1.target, way_of pause.1 outcome.1)

-- the trigger of a termination, which has no word before it
abbrev pub hold_of : TextExpression → DraftDelay
hold_of trigger = record { word = None; until = trigger; count = None }

abbrev pub ended : TransitionKind × ℕ → Option TextExpression → List DraftEffect × DraftLead → DraftTransition × DraftWay
ended moment trigger outcome = (transition_of moment false None outcome.0 outcome.1.target, way_of (option_map hold_of trigger) outcome.1)

-- ---- rows

abbrev pub no_rows : DraftRows
no_rows = record { entries = []; ways = [] }

abbrev pub both_rows : DraftRows → DraftRows → DraftRows
both_rows r s = record { entries = r.entries ++ s.entries; ways = r.ways ++ s.ways }

abbrev pub all_rows : List DraftRows → DraftRows
all_rows [] = no_rows
all_rows (r ∷ rows) = both_rows r (all_rows rows)

-- parts with their rows
abbrev pub gathered : {A : Type 0} → List (A × DraftRows) → List A × DraftRows
gathered parts = (map (λ x. x.0) parts, all_rows (map (λ x. x.1) parts))

-- parts with what stands beside each
abbrev pub parted : {A B : Type 0} → List (A × B) → List A × List B
parted parts = (map (λ x. x.0) parts, map (λ x. x.1) parts)

-- ---- states, regions and charts

-- what is in a state behind its actions: its regions with their rows, its transitions, and what is new of these
pub record StateBody : Type 0 where
  pub regions : List DraftRegion
  pub rows : DraftRows
  pub transitions : List DraftTransition
  pub ways : List DraftWay

abbrev pub body_of : List DraftRegion × DraftRows → List DraftTransition × List DraftWay → StateBody
body_of regions transitions =
    record { regions = regions.0; rows = regions.1; transitions = transitions.0; ways = transitions.1 }

-- a state begins before what is in it
abbrev pub state_rows : Bool → List DraftEntry → StateBody → DraftRows
state_rows is_final entries b =
    record { entries = actions_of is_final entries ∷ b.rows.entries; ways = b.rows.ways ++ b.ways }

abbrev pub state_with : Bool → Bool → Named → List DraftEntry × StateBody → DraftState × DraftRows
state_with is_initial is_final n body =
    (state_of is_initial is_final n (body.1.regions, body.1.transitions), state_rows is_final body.0 body.1)

abbrev pub region_with : Named → List DraftState × DraftRows → DraftRegion × DraftRows
region_with n states = (region_of n states.0, states.1)

-- an extended chart, by its items, and its regions with their rows
abbrev pub draft_of : Named → Named → List DraftItem × (List DraftRegion × DraftRows) → ExtendedDraft
draft_of word n parts =
    record {
      word = word;
      core = chart_of n (map (λ x. x.declared) parts.0) parts.1.0;
      items = parts.0;
      rows = parts.1.1;
    }
