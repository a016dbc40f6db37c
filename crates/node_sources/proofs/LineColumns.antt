-- The line and the column behind one byte more.
use Rattle.std.proofs.Common.{◌≡◌, ℕ, ◌+◌, ◌-◌, ◌^◌, ◌<◌, ◌≤◌, min, cond, get_or, Bool, true, false, ◌||◌, List, [], ◌∷◌, ◌++◌, length, take, drop}
use Rattle.std.proofs.Common.{length-append, count_by, refl, sym, ◌∙◌, ap, arith}
use Rattle.std.specs.Cmp.{unsigned_Decides}
use Rattle.std.proofs.Math.Nat.{min-eq_left}
use Rattle.std.proofs.lemmas.List.{take_more, take-append-drop}
use Rattle.std.proofs.lemmas.List.Sums.{sum_by-append, count_by_more_yes, count_by_more_no, count_by-le-length}
use Rattle.node_sources.specs.declared.line_columns.LineColumn.{LineColumn}
use Rattle.node_sources.specs.LinesColumns.{IsLineColumn, is_line_feed, begins_character, has_line_feed, last_of, last_line, line_behind, column_behind}

has_with : (bytes : List ℕ) (byte : ℕ) → is_line_feed byte ≡ true → has_line_feed (bytes ++ byte ∷ []) ≡ true
has_with [] byte is = ap (λ b. b || false) is
has_with (b ∷ bytes) byte is = go (is_line_feed b) (has_with bytes byte is)
  where
    go : (x : Bool) → has_line_feed (bytes ++ byte ∷ []) ≡ true → (x || has_line_feed (bytes ++ byte ∷ [])) ≡ true
    go true e = refl
    go false e = e

has_without : (bytes : List ℕ) (byte : ℕ) → is_line_feed byte ≡ false → has_line_feed (bytes ++ byte ∷ []) ≡ has_line_feed bytes
has_without [] byte is = ap (λ b. b || false) is
has_without (b ∷ bytes) byte is = ap (λ h. is_line_feed b || h) (has_without bytes byte is)

new_line : (bytes : List ℕ) (byte : ℕ) → is_line_feed byte ≡ true → last_line (bytes ++ byte ∷ []) ≡ []
new_line [] byte is = ap (λ h. last_of h [] (byte ∷ [])) (has_with [] byte is)
new_line (b ∷ bytes) byte is =
    ap (λ h. last_of h (last_line (bytes ++ byte ∷ [])) (b ∷ (bytes ++ byte ∷ []))) (has_with (b ∷ bytes) byte is) ∙ new_line bytes byte is

same_line : (bytes : List ℕ) (byte : ℕ) → is_line_feed byte ≡ false → last_line (bytes ++ byte ∷ []) ≡ last_line bytes ++ byte ∷ []
same_line [] byte is = ap (λ h. last_of h [] (byte ∷ [])) (has_without [] byte is)
same_line (b ∷ bytes) byte is =
    ap (λ h. last_of h (last_line (bytes ++ byte ∷ [])) (b ∷ (bytes ++ byte ∷ []))) (has_without (b ∷ bytes) byte is)
    ∙ go (has_line_feed (b ∷ bytes)) (same_line bytes byte is)
  where
    go : (h : Bool) → last_line (bytes ++ byte ∷ []) ≡ last_line bytes ++ byte ∷ []
        → last_of h (last_line (bytes ++ byte ∷ [])) (b ∷ (bytes ++ byte ∷ [])) ≡ last_of h (last_line bytes) (b ∷ bytes) ++ byte ∷ []
    go true e = e
    go false e = refl

module _ (bytes : List ℕ) (i d : ℕ) (within : i < length bytes) where
  more : take (i + 1) bytes ≡ take i bytes ++ get_or bytes i d ∷ []
  more = take_more bytes i d within

  pub line_more : is_line_feed (get_or bytes i d) ≡ true → line_behind (take (i + 1) bytes) ≡ line_behind (take i bytes) + 1
  line_more is =
      let one : count_by is_line_feed (take (i + 1) bytes) ≡ count_by is_line_feed (take i bytes) + 1 = count_by_more_yes is_line_feed bytes i d within is in
      omega arith

  pub line_same : is_line_feed (get_or bytes i d) ≡ false → line_behind (take (i + 1) bytes) ≡ line_behind (take i bytes)
  line_same is = ap (λ n. 1 + n) (count_by_more_no is_line_feed bytes i d within is)

  pub column_new : is_line_feed (get_or bytes i d) ≡ true → column_behind (take (i + 1) bytes) ≡ 1
  column_new is = ap (λ l. 1 + count_by begins_character l) (ap last_line more ∙ new_line (take i bytes) (get_or bytes i d) is)

  in_line : is_line_feed (get_or bytes i d) ≡ false
      → column_behind (take (i + 1) bytes) ≡ 1 + (count_by begins_character (last_line (take i bytes)) + count_by begins_character (get_or bytes i d ∷ []))
  in_line is =
      ap (λ l. 1 + count_by begins_character l) (ap last_line more ∙ same_line (take i bytes) (get_or bytes i d) is)
      ∙ ap (λ n. 1 + n) (sum_by-append (λ b. cond (begins_character b) 1 0) (last_line (take i bytes)) (get_or bytes i d ∷ []))

  pub column_more : is_line_feed (get_or bytes i d) ≡ false → begins_character (get_or bytes i d) ≡ true
      → column_behind (take (i + 1) bytes) ≡ column_behind (take i bytes) + 1
  column_more is begins =
      let one : count_by begins_character (get_or bytes i d ∷ []) ≡ 1 = ap (λ b. 0 + cond b 1 0) begins in
      let all = in_line is in
      omega arith

  pub column_same : is_line_feed (get_or bytes i d) ≡ false → begins_character (get_or bytes i d) ≡ false
      → column_behind (take (i + 1) bytes) ≡ column_behind (take i bytes)
  column_same is begins =
      let none : count_by begins_character (get_or bytes i d ∷ []) ≡ 0 = ap (λ b. 0 + cond b 1 0) begins in
      let all = in_line is in
      omega arith

last_line_short : (bytes : List ℕ) → length (last_line bytes) ≤ length bytes
last_line_short [] = omega arith
last_line_short (b ∷ bytes) = go (has_line_feed (b ∷ bytes)) (last_line_short bytes)
  where
    go : (h : Bool) → length (last_line bytes) ≤ length bytes → length (last_of h (last_line bytes) (b ∷ bytes)) ≤ length (b ∷ bytes)
    go true e = omega arith
    go false e = omega arith

take_short : (bytes : List ℕ) (i : ℕ) → length (take i bytes) ≤ length bytes
take_short bytes i =
    let e : length bytes ≡ length (take i bytes) + length (drop i bytes) =
    ap length (sym (take-append-drop i bytes)) ∙ length-append (take i bytes) (drop i bytes) in
    omega arith

pub line_fits : (bytes : List ℕ) (i : ℕ) → line_behind (take i bytes) ≤ 1 + length bytes
line_fits bytes i =
    let a = count_by-le-length is_line_feed (take i bytes) in
    let b = take_short bytes i in
    omega arith

pub column_fits : (bytes : List ℕ) (i : ℕ) → column_behind (take i bytes) ≤ 1 + length bytes
column_fits bytes i =
    let a = count_by-le-length begins_character (last_line (take i bytes)) in
    let b = last_line_short (take i bytes) in
    let c = take_short bytes i in
    omega arith

-- what is one more where it is counted up to the last number of the machine
pub one_more : (n size r : ℕ) → r ≡ min (n + 1) (2 ^ 64 - 1) → n ≤ 1 + size → size < 2 ^ 63 → r ≡ n + 1
one_more n size r is fits short = is ∙ min-eq_left (omega (arith, fits, short))

-- ---- as a place

module _ (bytes : List ℕ) (i d : ℕ) (line_column next : LineColumn) (within : i < length bytes) (is : IsLineColumn (take i bytes) line_column) where
  pub more_line : is_line_feed (get_or bytes i d) ≡ true → next.line ≡ line_column.line + 1 → next.column ≡ 1 → IsLineColumn (take (i + 1) bytes) next
  more_line feed line column =
      record {
        line = line ∙ ap (λ n. n + 1) is.line ∙ sym (line_more bytes i d within feed);
        column = column ∙ sym (column_new bytes i d within feed);
      }

  pub more_column : is_line_feed (get_or bytes i d) ≡ false → begins_character (get_or bytes i d) ≡ true → next.line ≡ line_column.line
      → next.column ≡ line_column.column + 1 → IsLineColumn (take (i + 1) bytes) next
  more_column feed begins line column =
      record {
        line = line ∙ is.line ∙ sym (line_same bytes i d within feed);
        column = column ∙ ap (λ n. n + 1) is.column ∙ sym (column_more bytes i d within feed begins);
      }

  pub same_line_column : is_line_feed (get_or bytes i d) ≡ false → begins_character (get_or bytes i d) ≡ false → next ≡ line_column →
      IsLineColumn (take (i + 1) bytes) next
  same_line_column feed begins same =
      record {
        line = ap (λ s. s.line) same ∙ is.line ∙ sym (line_same bytes i d within feed);
        column = ap (λ s. s.column) same ∙ is.column ∙ sym (column_same bytes i d within feed begins);
      }

pub is_feed : (byte : ℕ) → byte ≡ 10 → is_line_feed byte ≡ true
is_feed byte is = (unsigned_Decides byte 10).1 is

pub is_no_feed : (byte : ℕ) → ¬ (byte ≡ 10) → is_line_feed byte ≡ false
is_no_feed byte other = go (is_line_feed byte) refl
  where
    go : (b : Bool) → is_line_feed byte ≡ b → is_line_feed byte ≡ false
    go true e = absurd (other ((unsigned_Decides byte 10).0 e))
    go false e = e
