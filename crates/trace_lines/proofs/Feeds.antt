-- Line feeds in lists that are joined and cut.
use Rattle.std.proofs.Common.{◌≡◌, ℕ, ◌+◌, ◌<◌, ◌≤◌, Bool, true, false, not, cond, List, [], ◌++◌, length, take, drop, get_or, replicate, refl, ap, sym, ◌∙◌}
use Rattle.std.proofs.Common.{arith, Some, None, is_some, length-append}
use Rattle.std.specs.List.{position_or_len}
use Rattle.std.proofs.lemmas.Bool.{ltb-true, ltb-false, le-ltb}
use Rattle.std.proofs.lemmas.Bool.Decides.{nat_tests}
use Rattle.std.proofs.lemmas.List.{get_or-take, length-replicate, length-take-le, take-append-le, drop-append-le}
use Rattle.std.proofs.lemmas.List.Sums.{prefix_len-le-length, prefix_len_passes, position_or_len_is}
use Rattle.std.proofs.lemmas.List.Folds.{prefix_len-append}
use Rattle.std.proofs.Math.ListN.{drop_of_length-le}
use Rattle.std.proofs.Math.Seq.{take-length, take-append-add, drop-append-add}
use Rattle.std.proofs.Math.Dec.{ltb, eqb}
use Rattle.trace_lines.specs.Lines.{is_feed, has_feed, first_line, after_line}

-- where the first line feed is, or the length
abbrev place : List ℕ → ℕ
place xs = position_or_len is_feed xs

is_some-cond : (b : Bool) (n : ℕ) → is_some (cond b (Some n) None) ≡ b
is_some-cond true n = refl
is_some-cond false n = refl

test_of : (xs : List ℕ) → has_feed xs ≡ ltb (place xs) (length xs)
test_of xs = is_some-cond (ltb (place xs) (length xs)) (place xs)

place_within : (xs : List ℕ) → place xs ≤ length xs
place_within xs = prefix_len-le-length (λ x. not (is_feed x)) xs

place-none : (xs : List ℕ) → has_feed xs ≡ false → place xs ≡ length xs
place-none xs none =
    let past = ltb-false (place xs) (length xs) (sym (test_of xs) ∙ none) in
    let within = place_within xs in
    omega arith

none-place : (xs : List ℕ) → place xs ≡ length xs → has_feed xs ≡ false
none-place xs e = test_of xs ∙ le-ltb (place xs) (length xs) (omega arith)

place-some : (xs : List ℕ) → has_feed xs ≡ true → place xs < length xs
place-some xs some = ltb-true (place xs) (length xs) (sym (test_of xs) ∙ some)

pub first_line-none : (xs : List ℕ) → has_feed xs ≡ false → first_line xs ≡ xs
first_line-none xs none = ap (λ n. take n xs) (place-none xs none) ∙ take-length xs

pub after_line-none : (xs : List ℕ) → has_feed xs ≡ false → after_line xs ≡ []
after_line-none xs none = drop_of_length-le xs (let e = place-none xs none in omega arith)

place-append : (xs ys : List ℕ) → place (xs ++ ys) ≡ cond (eqb (place xs) (length xs)) (length xs + place ys) (place xs)
place-append xs ys = prefix_len-append (λ x. not (is_feed x)) xs ys

place-append_none : (xs ys : List ℕ) → has_feed xs ≡ false → place (xs ++ ys) ≡ length xs + place ys
place-append_none xs ys none =
    let e = place-none xs none in
    let joined = place-append xs ys in
    grind (arith, nat_tests)

place-append_some : (xs ys : List ℕ) → has_feed xs ≡ true → place (xs ++ ys) ≡ place xs
place-append_some xs ys some =
    let within = place-some xs some in
    let joined = place-append xs ys in
    grind (arith, nat_tests)

false_of : (b : Bool) → not b ≡ true → b ≡ false
false_of true e = sym e
false_of false e = refl

-- a first line has no line feed
pub has_feed-first_line : (xs : List ℕ) → has_feed (first_line xs) ≡ false
has_feed-first_line xs =
    let long : length (first_line xs) ≡ place xs = length-take-le (place xs) xs (place_within xs) in
    none-place (first_line xs) (position_or_len_is is_feed (first_line xs) (length (first_line xs)) 0 (omega arith)
    (λ k before. let within : k < place xs = omega arith in
    ap is_feed (get_or-take (place xs) xs k 0 within)
    ∙ false_of (is_feed (get_or xs k 0)) (prefix_len_passes (λ x. not (is_feed x)) xs k 0 within))
    (λ past. absurd (omega arith)))

pub has_feed-append : (xs ys : List ℕ) → has_feed xs ≡ false → has_feed ys ≡ false → has_feed (xs ++ ys) ≡ false
has_feed-append xs ys p q =
    none-place (xs ++ ys) (place-append_none xs ys p ∙ ap (λ n. length xs + n) (place-none ys q) ∙ sym (length-append xs ys))

-- the first line of lists of which the first has no line feed, and the second one
pub first_line-append : (line held rest : List ℕ) → has_feed line ≡ false → has_feed held ≡ true
    → first_line (line ++ (held ++ rest)) ≡ line ++ first_line held
first_line-append line held rest none some =
    let at : place (line ++ (held ++ rest)) ≡ length line + place held =
    place-append_none line (held ++ rest) none ∙ ap (λ n. length line + n) (place-append_some held rest some) in
    let within = place-some held some in
    ap (λ n. take n (line ++ (held ++ rest))) at
    ∙ take-append-add line (held ++ rest) (place held)
    ∙ ap (λ xs. line ++ xs) (take-append-le (place held) held rest (omega arith))

pub after_line-append : (line held rest : List ℕ) → has_feed line ≡ false → has_feed held ≡ true
    → after_line (line ++ (held ++ rest)) ≡ after_line held ++ rest
after_line-append line held rest none some =
    let at : place (line ++ (held ++ rest)) + 1 ≡ length line + (place held + 1) =
    let e = place-append_none line (held ++ rest) none in
    let f = place-append_some held rest some in
    omega arith in
    let within = place-some held some in
    ap (λ n. drop n (line ++ (held ++ rest))) at
    ∙ drop-append-add line (held ++ rest) (place held + 1)
    ∙ drop-append-le (place held + 1) held rest (omega arith)

-- a list with a line feed is not empty
pub length-feed : (xs : List ℕ) → has_feed xs ≡ true → 0 < length xs
length-feed xs some = let within = place-some xs some in omega arith

-- the first line of lists of which the first has no line feed is as long as that one, or longer
pub length-first_line : (line rest : List ℕ) → has_feed line ≡ false → length line ≤ length (first_line (line ++ rest))
length-first_line line rest none =
    let all = line ++ rest in
    let long : length (first_line all) ≡ place all = length-take-le (place all) all (place_within all) in
    let at = place-append_none line rest none in
    omega arith

-- lists are as long as one likes
pub long_line : (n : ℕ) → (line : List ℕ) × (n < length line)
long_line n =
    let line : List ℕ = replicate (n + 1) 0 in
    let long : length line ≡ n + 1 = length-replicate {A = ℕ} (n + 1) 0 in
    (line, omega arith)
