-- What stands behind some tokens.
use Rattle.std.proofs.Common.{◌≡◌, ℕ, ◌-◌, List, length, take, drop, ◌∙◌}
use Rattle.std.proofs.lemmas.List.{take_rest}
use Rattle.sc_text.specs.declared.token.Token.{Token}

pub rest_is : (xs rest : List Token) (i : ℕ) → rest ≡ take (length xs - i) (drop i xs) → rest ≡ drop i xs
rest_is xs rest i e = e ∙ take_rest xs i
