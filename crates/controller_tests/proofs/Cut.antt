-- The lines of bytes, one after another.
use Rattle.std.proofs.Common.{◌≡◌, ◌≢◌, ◌∙◌, ℕ, ◌+◌, ◌-◌, ◌<◌, List, [], ◌∷◌, length, take, drop, position}
use Rattle.std.proofs.Common.{false, Some, None, is_some, ap, sym, arith, length-drop}
use Rattle.std.proofs.Math.Seq.{take-length}
use Rattle.std.proofs.Math.ListN.{drop_of_length-le}
use Rattle.std.proofs.lemmas.Option.{cond_some}
use Rattle.trace_lines.specs.Lines.{is_feed, has_feed, first_line, after_line}
use Rattle.trace_lines.proofs.Feeds.{first_line-none, after_line-none}
use Rattle.trace_player.specs.Trace.{lines_of}
use Rattle.trace_player.proofs.Splits.{lines_of-cut}
use Rattle.controller_tests.specs.Inside.Lines.{Begins}

cut_at : (xs first rest : List ℕ) → xs ≢ [] → first ≡ first_line xs → rest ≡ after_line xs → lines_of xs ≡ first ∷ lines_of rest
cut_at xs first rest some is behind =
    lines_of-cut xs some ∙ ap (λ line. line ∷ lines_of (after_line xs)) (sym is) ∙ ap (λ ys. first ∷ lines_of ys) (sym behind)

some_of : (xs : List ℕ) → 0 < length xs → xs ≢ []
some_of xs some e = let none : length xs ≡ 0 = ap length e in absurd (omega (arith, some, none))

-- what is left behind a place, as a slice
abbrev pub left : List ℕ → ℕ → List ℕ
left xs k = take (length xs - k) (drop k xs)

left_is : (xs : List ℕ) (k : ℕ) → left xs k ≡ drop k xs
left_is xs k = ap (λ n. take n (drop k xs)) (sym (length-drop k xs)) ∙ take-length (drop k xs)

shorter : (xs : List ℕ) (k : ℕ) → 0 < length xs → 0 < k → length (left xs k) < length xs
shorter xs k some past =
    let long : length (left xs k) ≡ length xs - k = ap length (left_is xs k) ∙ length-drop k xs in
    omega (arith, long, some, past)

-- the first line ends at the line feed at a place
pub feed_at : (xs : List ℕ) (k : ℕ) → 0 < length xs → position is_feed xs ≡ Some k → Begins xs (Some (take k xs)) (left xs (k + 1))
feed_at xs k some found =
    let place = (cond_some _ _ _ found).1 in (
      cut_at xs (take k xs) (left xs (k + 1)) (some_of xs some) (ap (λ n. take n xs) (sym place))
          (left_is xs (k + 1) ∙ ap (λ n. drop (n + 1) xs) (sym place)),
      shorter xs (k + 1) some (omega arith),
    )

-- the first line is all there is
pub no_feed : (xs : List ℕ) → 0 < length xs → position is_feed xs ≡ None → Begins xs (Some xs) (left xs (length xs))
no_feed xs some none =
    let without : has_feed xs ≡ false = ap is_some none in (
      cut_at xs xs (left xs (length xs)) (some_of xs some) (sym (first_line-none xs without))
          (left_is xs (length xs) ∙ drop_of_length-le xs (omega arith) ∙ sym (after_line-none xs without)),
      shorter xs (length xs) some some,
    )
