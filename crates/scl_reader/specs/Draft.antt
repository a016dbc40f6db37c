-- What a text is read into: its name, its declarations and its statements. Names are not yet resolved.
use Rattle.std.specs.Prelude.{ℕ, ◌≡◌, ◌⊎◌, List, map, length}
use Rattle.grammar.specs.Grammar.{spells}
use Rattle.grammar.specs.Read.{Flaw}
use Rattle.grammar.specs.Fault.{Fault}
use Rattle.sc_text.specs.declared.language.Language.TheVariants as language
use Rattle.sc_text.specs.declared.token.Token.{Token}
use Rattle.sc_text.specs.declared.read_fault.FaultKind.{FaultKind}
use Rattle.sc_text.specs.declared.read_fault.ReadFault.{ReadFault}
use Rattle.sc_text.specs.declared.read_fault.ReadFault.TheVariants as fault
use Rattle.sc_text.specs.Tokens.{AreTokens, IsFirstFault}
use Rattle.sc_text.specs.Reading.{broken_by, place_of}
use Rattle.sc_text.specs.declared.drafts.parts.Declaration.{Declaration}
use Rattle.sc_text.specs.DraftParts.{name_of, named, role_of, kind_of, declared_as}
use Rattle.scl_reader.specs.declared.text_drafts.draft.Draft.{Draft}
use Rattle.scl_reader.specs.Program.{Text, scl}

-- a declaration by its role, its kind and its name
abbrev pub declared : Token × (Token × Token) → Declaration
declared d = declared_as (role_of d.0.kind) (kind_of d.1.0.kind) (named d.1.1)

abbrev pub draft_of : Text → Draft
draft_of t = record { name = name_of t.0.kind; declarations = map declared t.1.0; statements = t.1.1 }

-- the text spells a program, and this is its draft
pub record IsDraft (text : List ℕ) (draft : Draft) : Type 0 where
  pub tokens : List Token
  pub cut : AreTokens language.Scl 0 text tokens
  pub program : Text
  pub spelled : spells (scl 0) tokens program
  pub drafted : draft ≡ draft_of program

-- the text is cut into tokens, which spell no program: at this place they can't go on
pub record IsGrammarFault (text : List ℕ) (b : FaultKind) (at : ℕ) : Type 0 where
  pub tokens : List Token
  pub cut : AreTokens language.Scl 0 text tokens
  pub flaw : Flaw
  pub rest : List Token
  pub faulty : Fault scl tokens flaw rest
  pub breaks : b ≡ broken_by flaw
  pub place : at ≡ place_of (length text) rest

-- the text has no draft: it has a first place where no token stands, or its tokens can't go on. That memory was refused
-- says nothing of it
abbrev pub IsDraftFault : List ℕ → ReadFault → Type 0
IsDraftFault text (fault.Text b at) = IsFirstFault language.Scl 0 text b at ⊎ IsGrammarFault text b at
IsDraftFault text fault.Memory = Unit {0}
