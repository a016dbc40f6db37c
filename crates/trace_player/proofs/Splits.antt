-- An input as its first line and the lines behind it.
use Rattle.std.proofs.Common.{◌≡◌, ◌≢◌, ℕ, ◌+◌, ◌<◌, ◌≤◌, Bool, true, false, not, cond, Option, Some, None, List, [], ◌∷◌, length, take, drop, refl, ap, sym}
use Rattle.std.proofs.Common.{◌∙◌, arith, suc}
use Rattle.std.specs.Bool.{⊤}
use Rattle.std.specs.List.{position_or_len}
use Rattle.std.specs.Io.KnownBytes.{IsAtEnd}
use Rattle.trace_lines.specs.Lines.{is_feed, first_line, after_line, line_limit, TakesLine, IsTooLong}
use Rattle.trace_lines.proofs.Feeds.{long_line}
use Rattle.trace_player.specs.Trace.{onto_first, lines_of, AreLinesOf}

-- the lines of bytes, where these are known
abbrev pub Cut : Option (List ℕ) → List (List ℕ) → Type 0
Cut None lines = ⊤
Cut (Some bytes) lines = lines ≡ lines_of bytes

abbrev pub known_lines : Option (List ℕ) → List (List ℕ)
known_lines None = []
known_lines (Some bytes) = lines_of bytes

pub cut_known : (bytes : Option (List ℕ)) → Cut bytes (known_lines bytes)
cut_known None = tt
cut_known (Some bytes) = refl

pub are_lines : (bytes : Option (List ℕ)) (lines : List (List ℕ)) → Cut bytes lines → AreLinesOf bytes lines
are_lines None lines cut = tt
are_lines (Some bytes) lines cut = cut

pub cut_at_end : (bytes : Option (List ℕ)) → IsAtEnd bytes → Cut bytes []
cut_at_end None ended = tt
cut_at_end (Some bytes) ended = sym (ap lines_of ended)

lines_of-by : (b : Bool) (x : ℕ) (xs : List ℕ) → is_feed x ≡ b → lines_of (x ∷ xs) ≡ cond b ([] ∷ lines_of xs) (onto_first x (lines_of xs))
lines_of-by b x xs e = ap (λ c. cond c ([] ∷ lines_of xs) (onto_first x (lines_of xs))) e

first_line-by : (b : Bool) (x : ℕ) (xs : List ℕ) → is_feed x ≡ b → first_line (x ∷ xs) ≡ take (cond (not b) (1 + position_or_len is_feed xs) 0) (x ∷ xs)
first_line-by b x xs e = ap (λ c. take (cond (not c) (1 + position_or_len is_feed xs) 0) (x ∷ xs)) e

after_line-by : (b : Bool) (x : ℕ) (xs : List ℕ) → is_feed x ≡ b → after_line (x ∷ xs) ≡ drop (cond (not b) (1 + position_or_len is_feed xs) 0 + 1) (x ∷ xs)
after_line-by b x xs e = ap (λ c. drop (cond (not c) (1 + position_or_len is_feed xs) 0 + 1) (x ∷ xs)) e

first_line-byte : (x : ℕ) (xs : List ℕ) → is_feed x ≡ false → first_line (x ∷ xs) ≡ x ∷ first_line xs
first_line-byte x xs e =
    let more : 1 + position_or_len is_feed xs ≡ suc (position_or_len is_feed xs) = omega arith in
    first_line-by false x xs e ∙ ap (λ (n : ℕ). take n (x ∷ xs)) more

after_line-byte : (x : ℕ) (xs : List ℕ) → is_feed x ≡ false → after_line (x ∷ xs) ≡ after_line xs
after_line-byte x xs e =
    let more : 1 + position_or_len is_feed xs + 1 ≡ suc (position_or_len is_feed xs + 1) = omega arith in
    after_line-by false x xs e ∙ ap (λ (n : ℕ). drop n (x ∷ xs)) more

-- the lines of bytes, cut once
abbrev cut_once : List ℕ → List (List ℕ)
cut_once xs = first_line xs ∷ lines_of (after_line xs)

lines_of-more : (x : ℕ) (xs : List ℕ) → (xs ≢ [] → lines_of xs ≡ cut_once xs) → onto_first x (lines_of xs) ≡ (x ∷ first_line xs) ∷ lines_of (after_line xs)
lines_of-more x [] rest = refl
lines_of-more x (y ∷ ys) rest = ap (onto_first x) (rest (λ e. let long : length (y ∷ ys) ≡ 0 = ap length e in absurd (omega arith)))

lines_of-step : (b : Bool) (x : ℕ) (xs : List ℕ) → is_feed x ≡ b → (xs ≢ [] → lines_of xs ≡ cut_once xs) → lines_of (x ∷ xs) ≡ cut_once (x ∷ xs)
lines_of-step true x xs e rest =
    lines_of-by true x xs e
    ∙ ap (λ zs. [] ∷ lines_of zs) (sym (after_line-by true x xs e))
    ∙ ap (λ first. first ∷ lines_of (after_line (x ∷ xs))) (sym (first_line-by true x xs e))
lines_of-step false x xs e rest =
    lines_of-by false x xs e
    ∙ lines_of-more x xs rest
    ∙ ap (λ zs. (x ∷ first_line xs) ∷ lines_of zs) (sym (after_line-byte x xs e))
    ∙ ap (λ first. first ∷ lines_of (after_line (x ∷ xs))) (sym (first_line-byte x xs e))

-- the first line, and the lines behind it
pub lines_of-cut : (xs : List ℕ) → xs ≢ [] → lines_of xs ≡ first_line xs ∷ lines_of (after_line xs)
lines_of-cut [] some = absurd (some refl)
lines_of-cut (x ∷ xs) some = lines_of-step (is_feed x) x xs refl (lines_of-cut xs)

length-onto_first : (x : ℕ) (lines : List (List ℕ)) → length (onto_first x lines) ≤ length lines + 1
length-onto_first x [] = omega arith
length-onto_first x (line ∷ lines) = omega arith

length-lines_of-step : (b : Bool) (x : ℕ) (xs : List ℕ) → is_feed x ≡ b → length (lines_of xs) ≤ length xs → length (lines_of (x ∷ xs)) ≤ length (x ∷ xs)
length-lines_of-step true x xs e less =
    let cut : length (lines_of (x ∷ xs)) ≡ length ([] ∷ lines_of xs) = ap length (lines_of-by true x xs e) in
    omega arith
length-lines_of-step false x xs e less =
    let cut : length (lines_of (x ∷ xs)) ≡ length (onto_first x (lines_of xs)) = ap length (lines_of-by false x xs e) in
    let longer = length-onto_first x (lines_of xs) in
    omega arith

-- a line takes a byte or more
pub length-lines_of : (xs : List ℕ) → length (lines_of xs) ≤ length xs
length-lines_of [] = omega arith
length-lines_of (x ∷ xs) = length-lines_of-step (is_feed x) x xs refl (length-lines_of xs)

-- a line was taken
pub cut_taken : (old new : Option (List ℕ)) (line : List ℕ) (rest : List (List ℕ)) → TakesLine old new line → Cut new rest → Cut old (line ∷ rest)
cut_taken None new line rest takes cut = tt
cut_taken (Some xs) None line rest takes cut = absurd takes
cut_taken (Some xs) (Some ys) line rest takes cut = sym (lines_of-cut xs takes.0 ∙ ap (λ first. first ∷ lines_of (after_line xs)) (sym takes.1)
    ∙ ap (λ zs. line ∷ lines_of zs) (sym takes.2) ∙ ap (λ zs. line ∷ zs) (sym cut))

-- a line that is too long
pub cut_too_long : (bytes : Option (List ℕ)) → IsTooLong bytes → (line : List ℕ) × (rest : List (List ℕ)) × (line_limit < length line) × Cut bytes (line ∷ rest)
cut_too_long None long = let line = long_line line_limit in (line.0, [], line.1, tt)
cut_too_long (Some xs) long =
    let some : xs ≢ [] = λ e. let none : length (first_line xs) ≡ 0 = ap (λ ys. length (first_line ys)) e in absurd (omega arith) in
    (first_line xs, lines_of (after_line xs), long, sym (lines_of-cut xs some))
