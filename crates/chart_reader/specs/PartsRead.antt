-- What it is to have read some phrases of a row, or a name.
use Rattle.std.specs.Prelude.{ℕ, ◌≡◌, IsTrue, List, ◌++◌}
use Rattle.grammar.specs.Predictive.{first}
use Rattle.grammar.specs.Read.{Outcome, Got, next, starts, read, read_each}
use Rattle.sc_text.specs.declared.token.Token.{Token}
use Rattle.sc_text.specs.declared.token.TokenKind.{TokenKind}
use Rattle.sc_text.specs.Classes.{Class, AName, class_of, same_class}
use Rattle.sc_text.specs.Expression.{text_tokens}
use Rattle.sc_text.specs.DraftParts.{name_of}
use Rattle.chart_reader.specs.ChartText.{Grows}

-- some phrases of a row were read; so many more may follow, each beginning with a token of these classes
pub record IsGoing {A : Type 0} (o : Outcome Token (List A)) (g : Grows A) (ks : List Class) (found : List A) (left : ℕ) (rest : List Token) : Type 0 where
  pub begins : first g ≡ ks
  pub is : o ≡ next (read_each (starts text_tokens (first g)) (read g) left rest) (λ xs end. Got (found ++ xs) end)

-- some phrases were read, and stand behind the old ones
pub record Fills {A : Type 0} (o : Outcome Token (List A)) (old new : List A) (rest : List Token) : Type 0 where
  pub more : List A
  pub is : o ≡ Got more rest
  pub behind : new ≡ old ++ more

-- the name that a token is
pub record IsNameOf (k : TokenKind) (name : List ℕ) : Type 0 where
  pub is : IsTrue (same_class AName (class_of k))
  pub names : name ≡ name_of k
