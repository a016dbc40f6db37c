-- What a text is read into: the draft of the extended chart that it spells, or its first fault. It is read without its block comments, and
-- its tokens without modules.
use Rattle.std.specs.Prelude.{ℕ, ◌≡◌, ◌⊎◌, List, length}
use Rattle.grammar.specs.Grammar.{spells}
use Rattle.grammar.specs.Read.{Flaw}
use Rattle.grammar.specs.Fault.{Fault}
use Rattle.extended_reader.specs.Comments.{without_comments}
use Rattle.sc_text.specs.declared.language.Language.TheVariants as language
use Rattle.sc_text.specs.declared.token.Token.{Token}
use Rattle.sc_text.specs.declared.read_fault.FaultKind.{FaultKind}
use Rattle.sc_text.specs.declared.read_fault.ReadFault.{ReadFault}
use Rattle.sc_text.specs.declared.read_fault.ReadFault.TheVariants as fault
use Rattle.sc_text.specs.Tokens.{AreTokens, IsFirstFault}
use Rattle.sc_text.specs.Reading.{broken_by, place_of}
use Rattle.extended_reader.specs.Answer.{Good, Bad}
use Rattle.extended_reader.specs.Modules.{plain_text}
use Rattle.extended_reader.specs.declared.text_drafts.draft.ExtendedDraft.{ExtendedDraft}
use Rattle.extended_reader.specs.ExtendedText.{extended_text}

-- the text spells an extended chart, and this is its draft. Its tokens are those of charts, and each use of a module stands for
-- the regions of that
pub record IsExtendedDraft (text : List ℕ) (draft : ExtendedDraft) : Type 0 where
  pub tokens : List Token
  pub cut : AreTokens language.Chart 0 (without_comments text) tokens
  pub plain : List Token
  pub without : plain_text (length text) tokens ≡ Good plain
  pub spelled : spells (extended_text 0) plain draft

-- the text is cut into tokens, and at this place something is wrong with a module, or with a use of one
pub record IsModuleFault (text : List ℕ) (b : FaultKind) (at : ℕ) : Type 0 where
  pub tokens : List Token
  pub cut : AreTokens language.Chart 0 (without_comments text) tokens
  pub is : plain_text (length text) tokens ≡ Bad b at

-- the text is cut into tokens, which without modules spell no extended chart: at this place they can't go on
pub record IsGrammarFault (text : List ℕ) (b : FaultKind) (at : ℕ) : Type 0 where
  pub tokens : List Token
  pub cut : AreTokens language.Chart 0 (without_comments text) tokens
  pub plain : List Token
  pub without : plain_text (length text) tokens ≡ Good plain
  pub flaw : Flaw
  pub rest : List Token
  pub faulty : Fault extended_text plain flaw rest
  pub breaks : b ≡ broken_by flaw
  pub place : at ≡ place_of (length text) rest

-- the text has no draft: it has a first place where no token stands, or something is wrong with its modules, or its tokens can't
-- go on. That memory was refused says nothing of it
abbrev pub IsDraftFault : List ℕ → ReadFault → Type 0
IsDraftFault text (fault.Text b at) =
    IsFirstFault language.Chart 0 (without_comments text) b at ⊎ (IsModuleFault text b at ⊎ IsGrammarFault text b at)
IsDraftFault text fault.Memory = Unit {0}
