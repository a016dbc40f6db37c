-- How an input is cut into lines.
use Rattle.std.specs.Prelude.{◌≡◌, ◌≢◌, ◌<◌, ℕ, Bool, ◌==◌, Option, Some, None, List, [], length, position, is_some, ⊤}
use Rattle.std.specs.Io.KnownBytes.{prepend_known}
use Rattle.std.specs.List.{before_first, after_first}

abbrev pub line_feed : ℕ
line_feed = 10

-- the most bytes of a line
abbrev pub line_limit : ℕ
line_limit = 65536

abbrev pub is_feed : ℕ → Bool
is_feed byte = byte == line_feed

abbrev pub has_feed : List ℕ → Bool
has_feed bytes = is_some (position is_feed bytes)

-- the bytes before the first line feed, or all
abbrev pub first_line : List ℕ → List ℕ
first_line bytes = before_first is_feed bytes

-- the bytes behind the first line feed; none where there is no line feed
abbrev pub after_line : List ℕ → List ℕ
after_line bytes = after_first is_feed bytes

-- what is still ahead: the bytes held, and those to come, where they are known
abbrev pub ahead : List ℕ → Option (List ℕ) → Option (List ℕ)
ahead held to_come = prepend_known held to_come

-- of the bytes ahead the first line was taken
abbrev pub TakesLine : Option (List ℕ) → Option (List ℕ) → List ℕ → Type 0
TakesLine None new line = ⊤
TakesLine (Some xs) None line = ⊥
TakesLine (Some xs) (Some ys) line = (xs ≢ []) × (line ≡ first_line xs) × (ys ≡ after_line xs)

-- the first line ahead is too long
abbrev pub IsTooLong : Option (List ℕ) → Type 0
IsTooLong None = ⊤
IsTooLong (Some xs) = line_limit < length (first_line xs)
