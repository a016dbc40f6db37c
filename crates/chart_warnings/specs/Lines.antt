-- The lines of a text.
use Rattle.std.specs.Prelude.{ℕ, ◌-◌, nat_eq, Bool, not, ◌&&◌, List, [], ◌∷◌, take, count_by, if◌then◌else◌}
use Rattle.node_sources.specs.LinesColumns.{is_line_feed}

-- of so many line feeds those that are still to come behind a byte
abbrev pub left_behind : (feeds byte : ℕ) → ℕ
left_behind feeds byte = if is_line_feed byte then feeds - 1 else feeds

-- what stands behind so many line feeds
abbrev pub behind_feeds : ℕ → List ℕ → List ℕ
behind_feeds feeds [] = []
behind_feeds feeds (b ∷ bytes) = if nat_eq feeds 0 then b ∷ bytes else behind_feeds (left_behind feeds b) bytes

-- what stands before the first line feed
abbrev pub first_line : List ℕ → List ℕ
first_line [] = []
first_line (b ∷ bytes) = if is_line_feed b then [] else b ∷ first_line bytes

-- the line in which a place stands, behind as many line feeds as there are before the place
abbrev pub line_of : (text : List ℕ) → (at : ℕ) → List ℕ
line_of text at = first_line (behind_feeds (count_by is_line_feed (take at text)) text)

-- whether they are so many lines, each with its line feed
abbrev pub are_lines : ℕ → List ℕ → Bool
are_lines count [] = nat_eq count 0
are_lines count (b ∷ bytes) = not (nat_eq count 0) && are_lines (left_behind count b) bytes
