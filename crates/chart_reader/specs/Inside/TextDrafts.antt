-- What private functions alone say of themselves. It is proved, and no public contract rests on what it means.
use Rattle.std.specs.Prelude.{ℕ, ◌≡◌, List, ◌++◌}
use Rattle.grammar.specs.Read.{Outcome, Got}
use Rattle.sc_text.specs.declared.token.Token.{Token}
use Rattle.sc_text.specs.Classes.{Class}
use Rattle.chart_reader.specs.ChartText.{Grows}
use Rattle.chart_reader.specs.PartsRead.{IsGoing}

-- some phrases of two kinds were read, and stand behind the old ones of their kind
pub record FillsBoth {A B : Type 0} (o : Outcome Token (List A × List B)) (old new : List A) (others all : List B) (rest : List Token) : Type 0 where
  pub more : List A
  pub beside : List B
  pub is : o ≡ Got (more, beside) rest
  pub behind : new ≡ old ++ more
  pub beside_behind : all ≡ others ++ beside

-- some phrases of a row were read, and stand behind the old ones; so many more may follow, each beginning with a token of these classes
pub record IsFilling {A : Type 0} (o : Outcome Token (List A)) (g : Grows A) (ks : List Class) (old found : List A) (left : ℕ)
    (rest : List Token) : Type 0 where
  pub done : List A
  pub going : IsGoing o g ks done left rest
  pub behind : found ≡ old ++ done
