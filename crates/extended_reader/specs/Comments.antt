-- A text without its block comments: each of their bytes is a space, so that all else stands where it stood.
use Rattle.std.specs.Prelude.{ℕ, ◌==◌, Bool, false, ◌&&◌, ◌||◌, if◌then◌else◌, IsTrue, ◌≡◌, ◌<◌, ◌≤◌, List, [], ◌∷◌, ◌++◌, length, map, take, drop}
use Rattle.extended_reader.specs.declared.comments.part.Part.{Part}
use Rattle.extended_reader.specs.declared.comments.part.Part.TheVariants as part

abbrev pub slash : ℕ
slash = 47

abbrev pub star : ℕ
star = 42

abbrev pub line_feed : ℕ
line_feed = 10

abbrev pub space : ℕ
space = 32

-- no word, number, sign, white space or comment begins with this byte
abbrev pub unclosed : ℕ
unclosed = 0

-- ---- what each byte is part of

-- of the byte behind one that is part of this
abbrev pub behind : Part → ℕ → Part
behind part.Plain b = if b == slash then part.BehindSlash else part.Plain
behind part.BehindSlash b = if b == star then part.Block else (if b == slash then part.Line else part.Plain)
behind part.Line b = if b == line_feed then part.Plain else part.Line
behind part.Block b = if b == star then part.BehindStar else part.Block
behind part.BehindStar b = if b == slash then part.Plain else (if b == star then part.BehindStar else part.Block)

-- this byte is the last one of a block comment
abbrev pub ends : Part → ℕ → Bool
ends part.BehindStar b = b == slash
ends other b = false

-- one of these bytes is
abbrev pub is_closed : Part → List ℕ → Bool
is_closed p [] = false
is_closed p (b ∷ rest) = ends p b || is_closed (behind p b) rest

-- ---- what becomes of each byte

-- a slash with a star behind it
abbrev pub opens : ℕ → List ℕ → Bool
opens b [] = false
opens b (next ∷ rest) = (b == slash) && (next == star)

-- the first byte of a block comment, by those behind it
abbrev pub opened : List ℕ → ℕ
opened rest = if is_closed part.BehindSlash rest then space else unclosed

-- ends of lines stay
abbrev pub blank : ℕ → ℕ
blank b = if b == line_feed then b else space

abbrev pub shown : Part → ℕ → List ℕ → ℕ
shown part.Plain b rest = if opens b rest then opened rest else b
shown part.BehindSlash b rest = if b == star then space else b
shown part.Line b rest = b
shown part.Block b rest = blank b
shown part.BehindStar b rest = blank b

-- what stands from a byte on that is part of this
abbrev pub cleared : Part → List ℕ → List ℕ
cleared p [] = []
cleared p (b ∷ rest) = shown p b rest ∷ cleared (behind p b) rest

-- the text with each block comment as white space. Of one that is not closed the first byte is one with which nothing begins
abbrev pub without_comments : List ℕ → List ℕ
without_comments text = cleared part.Plain text

-- ---- a block comment at the front

-- the text begins with one that is closed
abbrev pub begins_comment : List ℕ → Bool
begins_comment [] = false
begins_comment (b ∷ rest) = opens b rest && is_closed part.BehindSlash rest

-- it is white space in the first n bytes, and what stands behind them is as a text by itself
pub record TakesComment (text : List ℕ) (n : ℕ) : Type 0 where
  pub some : 0 < n
  pub within : n ≤ length text
  pub begins : IsTrue (begins_comment text)
  pub cleared : without_comments text ≡ map blank (take n text) ++ without_comments (drop n text)
