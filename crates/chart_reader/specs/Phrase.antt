-- What reading a phrase from the front of a text gives.
use Rattle.std.specs.Prelude.{◌≡◌, List}
use Rattle.grammar.specs.Read.{Outcome, Got}
use Rattle.sc_text.specs.declared.token.Token.{Token}

-- a phrase was read, and the text goes on at the rest
pub record Gives {A : Type 0} (o : Outcome Token A) (x : A) (rest : List Token) : Type 0 where
  pub is : o ≡ Got x rest
