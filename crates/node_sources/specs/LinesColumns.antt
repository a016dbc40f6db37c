-- Lines and columns of a text, each from 1. Columns count characters, and a tab is one.
use Rattle.std.specs.Prelude.{ℕ, ◌≡◌, ◌+◌, ◌==◌, nat_le, Bool, true, false, not, ◌&&◌, ◌||◌, List, [], ◌∷◌, count_by}
use Rattle.node_sources.specs.declared.line_columns.LineColumn.{LineColumn}

abbrev pub is_line_feed : ℕ → Bool
is_line_feed byte = byte == 10

-- a byte by which a character begins: those behind the first byte of a character are 128 to 191
abbrev pub begins_character : ℕ → Bool
begins_character byte = not (nat_le 128 byte && nat_le byte 191)

abbrev pub has_line_feed : List ℕ → Bool
has_line_feed [] = false
has_line_feed (byte ∷ bytes) = is_line_feed byte || has_line_feed bytes

abbrev pub last_of : (has_more : Bool) → (later whole : List ℕ) → List ℕ
last_of true later whole = later
last_of false later whole = whole

-- what stands behind the last line feed
abbrev pub last_line : List ℕ → List ℕ
last_line [] = []
last_line (byte ∷ bytes) = last_of (has_line_feed (byte ∷ bytes)) (last_line bytes) (byte ∷ bytes)

-- the line of the place behind these bytes of a text: one more than the line feeds among them
abbrev pub line_behind : List ℕ → ℕ
line_behind before = 1 + count_by is_line_feed before

-- its column: one more than the characters before it in its line
abbrev pub column_behind : List ℕ → ℕ
column_behind before = 1 + count_by begins_character (last_line before)

-- the place behind these bytes
pub record IsLineColumn (before : List ℕ) (line_column : LineColumn) : Type 0 where
  pub line : line_column.line ≡ line_behind before
  pub column : line_column.column ≡ column_behind before
