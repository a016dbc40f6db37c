-- The tokens of a text with their places, and the first place where there is none.
use Rattle.std.specs.Prelude.{ℕ, ◌≡◌, ◌+◌, ◌-◌, ◌*◌, ◌<◌, ◌≤◌, ◌==◌, not, Bool, true, false, IsTrue, IsFalse, pos, List, [], ◌∷◌, ◌++◌, length}
use Rattle.std.specs.List.{list_all}
use Rattle.sc_values.specs.Name.{is_name, is_letter, is_digit}
use Rattle.sc_values.specs.Limits.{name_limit}
use Rattle.sc_text.specs.declared.word.Word.{Word}
use Rattle.sc_text.specs.declared.sign.Sign.{Sign}
use Rattle.sc_text.specs.declared.token.TokenKind.{TokenKind}
use Rattle.sc_text.specs.declared.token.TokenKind.TheVariants as kind
use Rattle.sc_text.specs.declared.token.Token.{Token}
use Rattle.sc_text.specs.declared.language.Language.{Language}
use Rattle.sc_text.specs.declared.language.Language.TheVariants as language
use Rattle.sc_text.specs.declared.read_fault.FaultKind.{FaultKind}
use Rattle.sc_text.specs.declared.read_fault.FaultKind.TheVariants as broken
use Rattle.sc_text.specs.declared.read_fault.ReadFault.{ReadFault}
use Rattle.sc_text.specs.declared.read_fault.ReadFault.TheVariants as fault
use Rattle.sc_text.specs.Words.{word_text, sign_text}
use Rattle.sc_text.specs.Pieces.{is_blank, stays_in_line, slash, IsLongest, BeginsNone}

-- the largest number that a text may write
abbrev pub number_limit : ℕ
number_limit = 2147483647

-- the number that these digits write, behind others that write n
abbrev pub written_behind : ℕ → List ℕ → ℕ
written_behind n [] = n
written_behind n (digit ∷ digits) = written_behind (n * 10 + (digit - 48)) digits

abbrev pub written : List ℕ → ℕ
written = written_behind 0

-- a zero in front of further digits
abbrev pub has_idle_zero : List ℕ → Bool
has_idle_zero [] = false
has_idle_zero (first ∷ []) = false
has_idle_zero (first ∷ second ∷ rest) = first == 48

-- names begin with `_` in SCL alone
abbrev pub allows : Language → ℕ → Bool
allows language.Scl first = true
allows language.Chart first = not (first == 95)

abbrev pub IsReserved : List ℕ → Type 0
IsReserved bytes = (w : Word) × (bytes ≡ word_text w)

-- what a piece is
pub data Spells (l : Language) : List ℕ → TokenKind → Type 0 where
  a_sign : (s : Sign) → Spells l (sign_text s) (kind.Sign s)
  a_word : (w : Word) → Spells l (word_text w) (kind.Word w)
  a_name : (first : ℕ) (rest : List ℕ) → IsTrue (is_name (first ∷ rest)) → IsTrue (allows l first)
      → ¬ IsReserved (first ∷ rest) → Spells l (first ∷ rest) (kind.Name (first ∷ rest))
  a_number : (digits : List ℕ) → IsTrue (list_all is_digit digits) → IsFalse (has_idle_zero digits)
      → written digits ≤ number_limit → Spells l digits (kind.Number (pos (written digits)))

-- white space and comments are no tokens
pub data IsPassed : List ℕ → Type 0 where
  a_blank : (byte : ℕ) → IsTrue (is_blank byte) → IsPassed (byte ∷ [])
  a_comment : (rest : List ℕ) → IsTrue (list_all stays_in_line rest) → IsPassed (slash ∷ slash ∷ rest)

-- why a piece that looks like a name or a number is none
pub data IsRefused (l : Language) : List ℕ → FaultKind → Type 0 where
  under_bar : (first : ℕ) (rest : List ℕ) → IsTrue (is_letter first) → IsFalse (allows l first)
      → IsRefused l (first ∷ rest) broken.Token
  long_name : (first : ℕ) (rest : List ℕ) → IsTrue (is_letter first) → IsTrue (allows l first)
      → name_limit < length (first ∷ rest) → IsRefused l (first ∷ rest) broken.Limit
  idle_zero : (digits : List ℕ) → IsTrue (list_all is_digit digits) → IsTrue (has_idle_zero digits)
      → IsRefused l digits broken.Token
  large_number : (digits : List ℕ) → IsTrue (list_all is_digit digits) → IsFalse (has_idle_zero digits)
      → number_limit < written digits → IsRefused l digits broken.Limit

-- the tokens of the text that stands from this place on
pub data AreTokens (l : Language) : (at : ℕ) → List ℕ → List Token → Type 0 where
  no_more : (at : ℕ) → AreTokens l at [] []
  passes : (at : ℕ) (piece rest : List ℕ) (tokens : List Token) → IsLongest piece rest → IsPassed piece →
      AreTokens l (at + length piece) rest tokens → AreTokens l at (piece ++ rest) tokens
  token : (at : ℕ) (piece rest : List ℕ) (k : TokenKind) (tokens : List Token) → IsLongest piece rest
      → Spells l piece k →
      AreTokens l (at + length piece) rest tokens → AreTokens l at (piece ++ rest)
      (record { kind = k; at = at } ∷ tokens)

-- the first place of the text at which no token stands, and what is broken there
pub data IsFirstFault (l : Language) : (at : ℕ) → List ℕ → FaultKind → (place : ℕ) → Type 0 where
  no_piece : (at first : ℕ) (rest : List ℕ) → BeginsNone (first ∷ rest)
      → IsFirstFault l at (first ∷ rest) broken.Token at
  refused : (at : ℕ) (piece rest : List ℕ) (b : FaultKind) → IsLongest piece rest → IsRefused l piece b
      → IsFirstFault l at (piece ++ rest) b at
  behind_passed : (at : ℕ) (piece rest : List ℕ) (b : FaultKind) (place : ℕ) → IsLongest piece rest → IsPassed piece →
      IsFirstFault l (at + length piece) rest b place → IsFirstFault l at (piece ++ rest) b place
  behind_token : (at : ℕ) (piece rest : List ℕ) (k : TokenKind) (b : FaultKind) (place : ℕ) → IsLongest piece rest
      → Spells l piece k →
      IsFirstFault l (at + length piece) rest b place → IsFirstFault l at (piece ++ rest) b place

-- what a fault of this pass says of the text. That memory was refused says nothing of it
abbrev pub IsScanFault : Language → List ℕ → ReadFault → Type 0
IsScanFault l text (fault.Text b at) = IsFirstFault l 0 text b at
IsScanFault l text fault.Memory = Unit {0}
