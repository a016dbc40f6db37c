-- What places tell: there are as many as elements of the chart, and at each one stands a token that begins what has this
-- place.
use Rattle.std.specs.Prelude.{ℕ, ◌≡◌, ◌<◌, Some, List, map, length, slice_get}
use Rattle.sc_text.specs.declared.language.Language.TheVariants as language
use Rattle.sc_text.specs.declared.read_fault.FaultKind.{FaultKind}
use Rattle.sc_text.specs.declared.read_fault.ReadFault.TheVariants as fault
use Rattle.sc_text.specs.declared.token.Token.{Token}
use Rattle.sc_text.specs.declared.token.TokenKind.{TokenKind}
use Rattle.sc_text.specs.declared.token.TokenKind.TheVariants as token
use Rattle.sc_text.specs.declared.word.Word.{Word}
use Rattle.sc_text.specs.declared.word.Word.TheVariants as word
use Rattle.sc_text.specs.Tokens.{AreTokens}
use Rattle.sc_graph.specs.declared.program.Variable.{Variable}
use Rattle.sc_text.specs.Resolved.{number_of}
use Rattle.core_charts.specs.declared.region.Effect.{Effect}
use Rattle.core_charts.specs.declared.region.Transition.{Transition}
use Rattle.core_charts.specs.declared.region.TransitionKind.{TransitionKind}
use Rattle.core_charts.specs.declared.region.TransitionKind.TheVariants as kind
use Rattle.core_charts.specs.Chart.{Chart}
use Rattle.core_charts.specs.Elements.{all_effects, all_transitions, region_names, state_names}
use Rattle.chart_reader.specs.declared.text_drafts.draft.DraftChart.{DraftChart}
use Rattle.chart_reader.specs.Checked.{IsTextFault}
use Rattle.chart_reader.specs.Reading.{IsDraft}
use Rattle.chart_reader.specs.Resolved.{chart_of}
use Rattle.node_sources.specs.declared.chart_places.places.Places.{Places}
use Rattle.node_sources.specs.Places.{places_of}
use Rattle.node_sources.specs.Read.{IsPlaced}

-- a token of this kind stands at this place of the text
pub record StandsAt (text : List ℕ) (k : TokenKind) (at : ℕ) : Type 0 where
  pub tokens : List Token
  pub cut : AreTokens language.Chart 0 text tokens
  pub index : ℕ
  pub stands : slice_get tokens index ≡ Some (record { kind = k; at = at })
  pub within : at < length text

abbrev pub NameStands : List ℕ → List ℕ → ℕ → Type 0
NameStands text name at = StandsAt text (token.Name name) at

-- the word that begins a transition
abbrev pub word_of : TransitionKind → Word
word_of kind.Go = word.Go
word_of kind.Strong = word.Strong
word_of kind.Weak = word.Weak
word_of kind.Join = word.Join

abbrev pub TransitionStands : List ℕ → Transition → ℕ → Type 0
TransitionStands text t at = StandsAt text (token.Word (word_of t.kind)) at

-- a name, by which the effect's variable is called
pub record EffectStands (text : List ℕ) (variables : List Variable) (e : Effect) (at : ℕ) : Type 0 where
  pub name : List ℕ
  pub called : e.variable ≡ number_of (map (λ x. x.name) variables) name
  pub stands : NameStands text name at

-- as many places as there are such elements, and at each place its own one
pub record Tells {A : Type 0} (Stands : A → ℕ → Type 0) (places : List ℕ) (those : List A) : Type 0 where
  pub each : length places ≡ length those
  pub stand : (k at : ℕ) (x : A) → slice_get places k ≡ Some at → slice_get those k ≡ Some x → Stands x at

pub record TellsPlaces (text : List ℕ) (c : Chart) (p : Places) : Type 0 where
  pub chart : NameStands text c.name p.chart
  pub regions : Tells (NameStands text) p.rows.regions (region_names c)
  pub states : Tells (NameStands text) p.rows.states (state_names c)
  pub transitions : Tells (TransitionStands text) p.rows.transitions (all_transitions c)
  pub effects : Tells (EffectStands text c.variables) p.rows.effects (all_effects (all_transitions c))

-- of the draft of each text, and the chart that it is
abbrev pub PlacesTellTexts : Type 0
PlacesTellTexts = (text : List ℕ) (d : DraftChart) → IsDraft text d → TellsPlaces text (chart_of d) (places_of d)

-- each text has one answer: one chart with one place for each of its elements, or a fault, and not both
pub record PlacedTextsHaveOneAnswer : Type 0 where
  pub one_chart : (text : List ℕ) (c d : Chart) (p q : Places) → IsPlaced text c p → IsPlaced text d q → (c ≡ d) × (p ≡ q)
  pub no_fault : (text : List ℕ) (c : Chart) (p : Places) (b : FaultKind) (at : ℕ) → IsPlaced text c p →
      ¬ IsTextFault text (fault.Text b at)
