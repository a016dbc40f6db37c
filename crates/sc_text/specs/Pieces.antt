-- How a text is cut into pieces: the longest that fits, one behind the other.
use Rattle.std.specs.Prelude.{ℕ, ◌≡◌, ◌≢◌, Bool, not, ◌||◌, ◌==◌, IsTrue, List, [], ◌∷◌, ◌++◌}
use Rattle.std.specs.List.{list_all}
use Rattle.sc_values.specs.Name.{is_letter, is_digit}
use Rattle.sc_text.specs.declared.sign.Sign.{Sign}
use Rattle.sc_text.specs.Words.{sign_text}

abbrev pub line_feed : ℕ
line_feed = 10

abbrev pub slash : ℕ
slash = 47

-- space, tab, carriage return or line feed
abbrev pub is_blank : ℕ → Bool
is_blank byte = (byte == 32) || (byte == 9) || (byte == 13) || (byte == line_feed)

-- a letter, a digit or `_`
abbrev pub is_word_byte : ℕ → Bool
is_word_byte byte = is_letter byte || is_digit byte

abbrev pub stays_in_line : ℕ → Bool
stays_in_line byte = not (byte == line_feed)

-- what tokens are, and what stands between them
pub data IsPiece : List ℕ → Type 0 where
  -- a letter or `_`, then letters, digits and `_`
  a_word : (first : ℕ) (rest : List ℕ) → IsTrue (is_letter first) → IsTrue (list_all is_word_byte rest)
      → IsPiece (first ∷ rest)
  digits : (first : ℕ) (rest : List ℕ) → IsTrue (is_digit first) → IsTrue (list_all is_digit rest)
      → IsPiece (first ∷ rest)
  a_sign : (sign : Sign) → IsPiece (sign_text sign)
  blank : (byte : ℕ) → IsTrue (is_blank byte) → IsPiece (byte ∷ [])
  -- two slashes, and what stands behind them in the line
  comment : (rest : List ℕ) → IsTrue (list_all stays_in_line rest) → IsPiece (slash ∷ slash ∷ rest)

-- the longest piece by which a text begins, and what stands behind it
pub record IsLongest (piece rest : List ℕ) : Type 0 where
  pub is_piece : IsPiece piece
  pub longest : (more behind : List ℕ) → rest ≡ more ++ behind → more ≢ [] → ¬ IsPiece (piece ++ more)

-- no piece begins the text
abbrev pub BeginsNone : List ℕ → Type 0
BeginsNone text = (front behind : List ℕ) → text ≡ front ++ behind → ¬ IsPiece front
