-- The first line feed, as a search for its byte finds it.
use Rattle.std.proofs.Common.{◌≡◌, ℕ, ◌<◌, Bool, true, false, List, length, Option, Some, None, refl, arith, get_or, position}
use Rattle.std.specs.List.{position_or_len}
use Rattle.std.proofs.lemmas.Bool.{lt-ltb, le-ltb}
use Rattle.std.proofs.lemmas.List.Sums.{position_or_len_is}
use Rattle.std.proofs.Math.Dec.{ltb}
use Rattle.memchr.specs.Find.{IsFirstByte, is_byte}
use Rattle.trace_lines.specs.Lines.{is_feed}

not_true : (b : Bool) → ¬ (b ≡ true) → b ≡ false
not_true true never = absurd (never refl)
not_true false never = refl

pub first_feed : (xs : List ℕ) (r : Option ℕ) → IsFirstByte (is_byte 10) xs r → r ≡ position is_feed xs
first_feed xs None nowhere =
    let at : position_or_len is_feed xs ≡ length xs =
    position_or_len_is is_feed xs (length xs) 0 (omega arith) (λ k before. not_true (is_feed (get_or xs k 0)) (nowhere k (omega arith) before))
    (λ past. absurd (omega arith)) in
    let none : ltb (position_or_len is_feed xs) (length xs) ≡ false = le-ltb (position_or_len is_feed xs) (length xs) (omega (arith, at)) in
    rw none refl
first_feed xs (Some k) first =
    let within : k < length xs = first.0.high in
    let at : position_or_len is_feed xs ≡ k =
    position_or_len_is is_feed xs k 0 (omega (arith, within)) (λ j before. not_true (is_feed (get_or xs j 0)) (first.0.before j (omega arith) before))
    (λ _. first.1) in
    let some : ltb k (length xs) ≡ true = lt-ltb k (length xs) within in
    rw (at, some) refl
