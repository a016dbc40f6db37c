-- What reading a phrase of a grammar tells of a text, by the tokens from some place on.
use Rattle.std.specs.Prelude.{ℕ, ◌≡◌, List, [], ◌∷◌, ◌++◌}
use Rattle.grammar.specs.Read.{Flaw, Wrong, Deep, Outcome, Got, Failed}
use Rattle.sc_text.specs.declared.token.Token.{Token}
use Rattle.sc_text.specs.declared.operation.TextOperation.{TextOperation}
use Rattle.sc_text.specs.declared.read_fault.FaultKind.{FaultKind}
use Rattle.sc_text.specs.declared.read_fault.FaultKind.TheVariants as broken
use Rattle.sc_text.specs.declared.read_fault.ReadFault.{ReadFault}
use Rattle.sc_text.specs.declared.read_fault.ReadFault.TheVariants as fault
use Rattle.sc_text.specs.Phrases.{Phrase}

-- what is broken where no text goes on so, and where only deeper ones do
abbrev pub broken_by : Flaw → FaultKind
broken_by Wrong = broken.Grammar
broken_by Deep = broken.Limit

-- the first byte of the next token, or the end of the text
abbrev pub place_of : ℕ → List Token → ℕ
place_of end [] = end
place_of end (t ∷ tokens) = t.at

-- reading fails here
pub record StopsAt {A : Type 0} (end : ℕ) (o : Outcome Token A) (b : FaultKind) (at : ℕ) : Type 0 where
  pub flaw : Flaw
  pub rest : List Token
  pub is : o ≡ Failed flaw rest
  pub breaks : b ≡ broken_by flaw
  pub place : at ≡ place_of end rest

-- why reading fails. That memory was refused says nothing of the text
abbrev pub Stops : {A : Type 0} → ℕ → Outcome Token A → ReadFault → Type 0
Stops end o (fault.Text b at) = StopsAt end o b at
Stops end o fault.Memory = Unit {0}

-- a phrase was read: its operations stand behind the old ones, and the text goes on at the rest
pub record Reads (o : Outcome Token Phrase) (old new : List TextOperation) (rest : List Token) : Type 0 where
  pub phrase : Phrase
  pub is : o ≡ Got phrase rest
  pub behind : new ≡ old ++ phrase

-- a token was read
pub record Takes (o : Outcome Token Token) (rest : List Token) : Type 0 where
  pub token : Token
  pub is : o ≡ Got token rest
