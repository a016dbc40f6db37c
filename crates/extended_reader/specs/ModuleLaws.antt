-- What holds of texts without their modules.
use Rattle.std.specs.Prelude.{ℕ, ◌≡◌, false, List, length}
use Rattle.sc_text.specs.declared.token.Token.{Token}
use Rattle.extended_reader.specs.Answer.{Good}
use Rattle.extended_reader.specs.Modules.{module_place, plain_text}

-- a text in which no module stands is as it was
pub record PlainTextsStay : Type 0 where
  pub stays : (end : ℕ) (text : List Token) → module_place false text ≡ length text → plain_text end text ≡ Good text
