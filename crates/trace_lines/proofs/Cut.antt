-- Ranges of a piece, and first lines of lists that are joined.
use Rattle.std.proofs.Common.{◌≡◌, ℕ, ◌+◌, ◌-◌, ◌≤◌, List, take, drop, length, ap, sym, ◌∙◌, arith, length-drop, slice_range, Some, position}
use Rattle.std.proofs.lemmas.List.{drop-take, drop-drop, length-take-le}
use Rattle.std.proofs.lemmas.List.Quantifiers.{position-Some}
use Rattle.std.proofs.lemmas.Option.{cond_some}
use Rattle.trace_lines.specs.Lines.{is_feed, after_line}

-- a range that begins later is the rest of the range
pub slice_range-later : (xs : List ℕ) (a n b : ℕ) → a + n ≤ b → slice_range xs (a + n) b ≡ drop n (slice_range xs a b)
slice_range-later xs a n b within =
    let count : b - a ≡ n + (b - (a + n)) = omega arith in
    ap (take (b - (a + n))) (sym (drop-drop n a xs))
    ∙ sym (drop-take n (b - (a + n)) (drop a xs))
    ∙ ap (λ k. drop n (take k (drop a xs))) (sym count)

-- the range behind the first line feed of a range
pub after_line-range : (xs : List ℕ) (a b k : ℕ) → a ≤ b → b ≤ length xs → position is_feed (slice_range xs a b) ≡ Some k
    → slice_range xs (a + (k + 1)) b ≡ after_line (slice_range xs a b)
after_line-range xs a b k begins ends found =
    let place = (cond_some _ _ _ found).1 in
    let inside = (position-Some is_feed (slice_range xs a b) k 0 found).0 in
    let long = length-take-le (b - a) (drop a xs) (omega (arith, length-drop a xs)) in
    slice_range-later xs a (k + 1) b (omega (arith, inside, long))
    ∙ ap (λ n. drop (n + 1) (slice_range xs a b)) (sym place)
