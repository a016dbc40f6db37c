-- What private functions alone say of themselves. It is proved, and no public contract rests on what it means.
pub mod Drafts
use Rattle.std.specs.Prelude.{ℕ, Option, Some, None, ℤ, pos, MatchOption, ◌≡◌, ◌≢◌, IsTrue, ◌<◌, ◌≤◌, List, [], ◌∷◌, ◌++◌, length, take, drop, Bool}
use Rattle.std.specs.List.{list_all}
use Rattle.sc_values.specs.Name.{is_letter, is_digit}
use Rattle.sc_text.specs.declared.token.TokenKind.{TokenKind}
use Rattle.sc_text.specs.declared.token.Token.{Token}
use Rattle.sc_text.specs.declared.scan.Step.{Step}
use Rattle.sc_text.specs.declared.language.Language.{Language}
use Rattle.sc_text.specs.declared.read_fault.FaultKind.{FaultKind}
use Rattle.sc_text.specs.declared.read_fault.FaultKind.TheVariants as broken
use Rattle.sc_text.specs.declared.piece.Row.{Row}
use Rattle.sc_text.specs.declared.piece.Row.TheVariants as row
use Rattle.sc_text.specs.declared.sign.Sign.{Sign}
use Rattle.sc_text.specs.declared.piece.Piece.{Piece}
use Rattle.sc_text.specs.declared.piece.Piece.TheVariants as piece
use Rattle.sc_text.specs.declared.word.Word.{Word}
use Rattle.sc_text.specs.Words.{word_text, sign_text}
use Rattle.sc_text.specs.Pieces.{is_blank, slash, is_word_byte, stays_in_line, IsLongest, BeginsNone}
use Rattle.sc_text.specs.Tokens.{Spells, IsPassed, IsRefused, written, number_limit}

-- the bytes of a row
abbrev pub is_of : Row → ℕ → Bool
is_of row.Word byte = is_word_byte byte
is_of row.Digits byte = is_digit byte
is_of row.Line byte = stays_in_line byte

-- the first n bytes are the longest piece
pub record Cuts (bytes : List ℕ) (n : ℕ) : Type 0 where
  pub some : 0 < n
  pub within : n ≤ length bytes
  pub piece : IsLongest (take n bytes) (drop n bytes)

-- what the bytes of a piece are
pub data IsMadeOf : Piece → List ℕ → Type 0 where
  a_word : (first : ℕ) (rest : List ℕ) → IsTrue (is_letter first) → IsTrue (list_all is_word_byte rest)
      → IsMadeOf piece.Word (first ∷ rest)
  digits : (first : ℕ) (rest : List ℕ) → IsTrue (is_digit first) → IsTrue (list_all is_digit rest)
      → IsMadeOf piece.Digits (first ∷ rest)
  a_sign : (s : Sign) → IsMadeOf (piece.Sign s) (sign_text s)
  blank : (byte : ℕ) → IsTrue (is_blank byte) → IsMadeOf piece.Blank (byte ∷ [])
  comment : (rest : List ℕ) → IsTrue (list_all stays_in_line rest) → IsMadeOf piece.Comment (slash ∷ slash ∷ rest)

-- the first n bytes are the longest piece, and are of this kind
pub record IsPieceAt (bytes : List ℕ) (p : Piece) (n : ℕ) : Type 0 where
  pub cuts : Cuts bytes n
  pub made_of : IsMadeOf p (take n bytes)

-- two slashes stand at the front
abbrev pub BeginsComment : List ℕ → Type 0
BeginsComment text = (tail : List ℕ) × (text ≡ slash ∷ slash ∷ tail)

-- the first n bytes are those of the sign
pub record BeginsSign (text : List ℕ) (n : ℕ) (s : Sign) : Type 0 where
  pub tail : List ℕ
  pub parts : text ≡ sign_text s ++ tail
  pub long : length (sign_text s) ≡ n

-- the first n bytes are those of no sign
pub record BeginsNoSign (text : List ℕ) (n : ℕ) : Type 0 where
  pub unspelled : (s : Sign) (front tail : List ℕ) → text ≡ front ++ tail → length front ≡ n → front ≢ sign_text s

-- the longest piece at the front, and what it is
pub record IsStep (l : Language) (text : List ℕ) (step : Step) : Type 0 where
  pub cuts : Cuts text step.length
  pub gives : MatchOption step.kind (IsPassed (take step.length text)) (λ k. Spells l (take step.length text) k)

-- no piece at the front, or one that is refused
pub data IsNoStep (l : Language) (text : List ℕ) : FaultKind → Type 0 where
  nothing : BeginsNone text → IsNoStep l text broken.Token
  refused : (n : ℕ) (b : FaultKind) → Cuts text n → IsRefused l (take n text) b → IsNoStep l text b

-- the value of these digits, which is not too large
pub record IsValue (value : ℤ) (bytes : List ℕ) : Type 0 where
  pub is : value ≡ pos (written bytes)
  pub within : written bytes ≤ number_limit

abbrev pub IsNumber : List ℕ → TokenKind → Type 0
IsNumber bytes k = (l : Language) → Spells l bytes k

abbrev pub IsNoNumber : List ℕ → FaultKind → Type 0
IsNoNumber bytes b = (l : Language) → IsRefused l bytes b

abbrev pub token_at : ℕ → Option TokenKind → List Token
token_at at None = []
token_at at (Some k) = record { kind = k; at = at } ∷ []

-- no reserved word
abbrev pub IsFree : List ℕ → Type 0
IsFree bytes = (w : Word) → bytes ≢ word_text w
