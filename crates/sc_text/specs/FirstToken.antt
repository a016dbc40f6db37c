-- Whether the first token of a text is a word, and by that which language the text is in.
use Rattle.std.specs.Prelude.{ℕ, ◌≡◌, ◌<◌, ◌≤◌, Bool, false, ◌&&◌, List, [], ◌∷◌, ◌++◌, length, take, drop}
use Rattle.std.specs.List.{list_all}
use Rattle.sc_values.specs.Name.{is_letter}
use Rattle.sc_text.specs.declared.language.Language.{Language}
use Rattle.sc_text.specs.declared.language.Language.TheVariants as language
use Rattle.sc_text.specs.declared.word.Word.TheVariants as word
use Rattle.sc_text.specs.Words.{word_text}
use Rattle.sc_text.specs.Pieces.{IsLongest, is_word_byte}
use Rattle.sc_text.specs.Tokens.{IsPassed}

-- these bytes are a word: a letter or `_`, then letters, digits and `_`
abbrev pub is_word : List ℕ → Bool
is_word [] = false
is_word (first ∷ rest) = is_letter first && list_all is_word_byte rest

-- the first n bytes are white space, or a comment
pub record Passes (text : List ℕ) (n : ℕ) : Type 0 where
  pub some : 0 < n
  pub within : n ≤ length text
  pub piece : IsLongest (take n text) (drop n text)
  pub passed : IsPassed (take n text)

-- the text begins neither with white space nor with a comment
abbrev pub PassesNone : List ℕ → Type 0
PassesNone text = (piece rest : List ℕ) → text ≡ piece ++ rest → ¬ IsPassed piece

-- the text begins with this word, and no name goes on
pub record IsNext (w text : List ℕ) : Type 0 where
  pub rest : List ℕ
  pub parts : text ≡ w ++ rest
  pub longest : IsLongest w rest

-- the first token of the text is this word: nothing but white space and comments stands before it
pub data BeginsWith (w : List ℕ) : List ℕ → Type 0 where
  at_once : (rest : List ℕ) → IsLongest w rest → BeginsWith w (w ++ rest)
  passes : (piece rest : List ℕ) → IsLongest piece rest → IsPassed piece → BeginsWith w rest → BeginsWith w (piece ++ rest)

-- the text of a chart begins with the word `chart`; every other text is one of SCL
abbrev pub IsIn : List ℕ → Language → Type 0
IsIn text language.Chart = BeginsWith (word_text word.Chart) text
IsIn text language.Scl = ¬ BeginsWith (word_text word.Chart) text
