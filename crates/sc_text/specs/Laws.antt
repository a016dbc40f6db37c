-- What holds of the grammar of expressions as a whole.
use Rattle.std.specs.Prelude.{ℕ, ◌≡◌, IsFalse, List, [], ◌++◌}
use Rattle.grammar.specs.Grammar.{spells}
use Rattle.grammar.specs.Predictive.{tails}
use Rattle.grammar.specs.Read.{Flaw, Got, Failed, starts, read, read_all}
use Rattle.grammar.specs.Fault.{Fault, Told}
use Rattle.sc_text.specs.declared.token.Token.{Token}
use Rattle.sc_text.specs.declared.language.Language.{Language}
use Rattle.sc_text.specs.declared.read_fault.FaultKind.{FaultKind}
use Rattle.sc_text.specs.Tokens.{AreTokens, IsFirstFault}
use Rattle.sc_text.specs.Phrases.{Phrase}
use Rattle.sc_text.specs.Expression.{text_tokens, expression}

-- each list of tokens is told: the one expression that it spells, or its one fault
pub record ExpressionsAreTold : Type 0 where
  pub told : (text : List Token) → Told expression text (read_all (expression 0) text)
  pub spelled : (text : List Token) (p : Phrase) → spells (expression 0) text p
      → read_all (expression 0) text ≡ Got p []
  pub faulty : (text rest : List Token) (flaw : Flaw) → Fault expression text flaw rest
      → read_all (expression 0) text ≡ Failed flaw rest
  -- an expression that begins a longer text: it is read where no token follows by which it may go on, what is read is one,
  -- and where none is read the whole text has its fault there
  pub within : (front rest : List Token) (p : Phrase) → spells (expression 0) front p
      → IsFalse (starts text_tokens (tails (expression 0)) rest) → read (expression 0) (front ++ rest) ≡ Got p rest
  pub begun : (text rest : List Token) (p : Phrase) → read (expression 0) text ≡ Got p rest
      → (front : List Token) × (text ≡ front ++ rest) × spells (expression 0) front p
  pub stopped : (text rest : List Token) (flaw : Flaw) → read (expression 0) text ≡ Failed flaw rest
      → Fault expression text flaw rest

-- a text has one list of tokens, or one first place where no token stands, and not both
pub record TextsAreCutOnce : Type 0 where
  pub one_list : (l : Language) (text : List ℕ) (tokens others : List Token) → AreTokens l 0 text tokens → AreTokens l 0 text others → tokens ≡ others
  pub no_fault : (l : Language) (text : List ℕ) (tokens : List Token) (b : FaultKind) (at : ℕ) → AreTokens l 0 text tokens → ¬ IsFirstFault l 0 text b at
  pub one_fault : (l : Language) (text : List ℕ) (b c : FaultKind) (at place : ℕ) → IsFirstFault l 0 text b at → IsFirstFault l 0 text c place
      → (b ≡ c) × (at ≡ place)
