-- What each token of a text keeps: a name is none of the reserved words, and a number is not too large.
use Rattle.std.proofs.Common.{◌≡◌, ℕ, ◌≤◌, ℤ, pos, IsTrue, List, ◌∷◌, Some, refl, subst}
use Rattle.std.specs.List.{slice_get}
use Rattle.grammar.proofs.Each.{Every}
use Rattle.sc_text.specs.declared.token.Token.{Token}
use Rattle.sc_text.specs.declared.token.TokenKind.{TokenKind}
use Rattle.sc_text.specs.declared.token.TokenKind.TheVariants as kind
use Rattle.sc_text.specs.declared.language.Language.{Language}
use Rattle.sc_text.specs.Tokens.{number_limit, allows, Spells, a_sign, a_word, a_name, a_number, AreTokens, no_more, passes, token}
use Rattle.sc_text.specs.Parts.{IsNameIn}

-- a number that a text may write
pub record IsTextNumber (n : ℤ) : Type 0 where
  pub value : ℕ
  pub is : n ≡ pos value
  pub low : value ≤ number_limit

abbrev pub IsWellKind : Language → TokenKind → Type 0
IsWellKind l (kind.Name name) = IsNameIn l name
IsWellKind l (kind.Number n) = IsTextNumber n
IsWellKind l k = Unit {0}

abbrev pub IsWell : Language → Token → Type 0
IsWell l t = IsWellKind l t.kind

first_allowed : (l : Language) (first : ℕ) (rest : List ℕ) → IsTrue (allows l first) → (b : ℕ) → slice_get (first ∷ rest) 0 ≡ Some b → IsTrue (allows l b)
first_allowed l first rest a b e =
    let same : first ≡ b = cc in
    subst (λ x. IsTrue (allows l x)) same a

kind_well : (l : Language) (piece : List ℕ) (k : TokenKind) → Spells l piece k → IsWellKind l k
kind_well l piece k (a_sign s) = tt
kind_well l piece k (a_word w) = tt
kind_well l piece k (a_name first rest named allowed free) =
    record { free = free; begins = first_allowed l first rest allowed }
kind_well l piece k (a_number digits are idle low) = record { value = _; is = refl; low = low }

pub tokens_well : (l : Language) (at : ℕ) (text : List ℕ) (tokens : List Token) → AreTokens l at text tokens → Every (IsWell l) tokens
tokens_well l at text tokens (no_more a) = tt
tokens_well l at text tokens (passes a piece rest more longest passed behind) = tokens_well l _ _ _ behind
tokens_well l at text tokens (token a piece rest k more longest spelled behind) =
    (kind_well l piece k spelled, tokens_well l _ _ _ behind)
