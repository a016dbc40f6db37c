-- What a text is read into: the draft that it spells, or its first fault.
use Rattle.std.specs.Prelude.{ℕ, ◌≡◌, ◌⊎◌, List, length}
use Rattle.grammar.specs.Grammar.{spells}
use Rattle.grammar.specs.Read.{Flaw}
use Rattle.grammar.specs.Fault.{Fault}
use Rattle.sc_text.specs.declared.language.Language.TheVariants as language
use Rattle.sc_text.specs.declared.token.Token.{Token}
use Rattle.sc_text.specs.declared.read_fault.FaultKind.{FaultKind}
use Rattle.sc_text.specs.declared.read_fault.ReadFault.{ReadFault}
use Rattle.sc_text.specs.declared.read_fault.ReadFault.TheVariants as fault
use Rattle.sc_text.specs.Tokens.{AreTokens, IsFirstFault}
use Rattle.sc_text.specs.Reading.{broken_by, place_of}
use Rattle.chart_reader.specs.declared.text_drafts.draft.DraftChart.{DraftChart}
use Rattle.chart_reader.specs.ChartText.{chart_text}

-- the text spells a chart, and this is its draft
pub record IsDraft (text : List ℕ) (draft : DraftChart) : Type 0 where
  pub tokens : List Token
  pub cut : AreTokens language.Chart 0 text tokens
  pub spelled : spells (chart_text 0) tokens draft

-- the text is cut into tokens, which spell no chart: at this place they can't go on
pub record IsGrammarFault (text : List ℕ) (b : FaultKind) (at : ℕ) : Type 0 where
  pub tokens : List Token
  pub cut : AreTokens language.Chart 0 text tokens
  pub flaw : Flaw
  pub rest : List Token
  pub faulty : Fault chart_text tokens flaw rest
  pub breaks : b ≡ broken_by flaw
  pub place : at ≡ place_of (length text) rest

-- the text has no draft: it has a first place where no token stands, or its tokens can't go on. That memory was refused
-- says nothing of it
abbrev pub IsDraftFault : List ℕ → ReadFault → Type 0
IsDraftFault text (fault.Text b at) = IsFirstFault language.Chart 0 text b at ⊎ IsGrammarFault text b at
IsDraftFault text fault.Memory = Unit {0}
