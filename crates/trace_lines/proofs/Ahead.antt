-- How the bytes ahead change while a line is taken from them.
use Rattle.std.proofs.Common.{◌≡◌, ◌≢◌, ℕ, ◌<◌, Bool, true, false, List, [], ◌∷◌, ◌++◌, length, Option, Some, None, refl, ap, sym, ◌∙◌, arith, append_assoc}
use Rattle.std.proofs.Common.{append-nil, length-append, subst, IsTrue, ◌==◌}
use Rattle.std.specs.Io.KnownBytes.{Consumes, IsAtEnd}
use Rattle.trace_lines.specs.Lines.{has_feed, first_line, after_line, line_limit, ahead, TakesLine, IsTooLong}
use Rattle.trace_lines.proofs.Feeds.{first_line-none, after_line-none, first_line-append, after_line-append, length-feed, length-first_line, has_feed-append}
use Rattle.trace_lines.proofs.Feeds.{has_feed-first_line}

-- all that was held, and had no line feed, went to the line
pub moves_all : (start to_come : Option (List ℕ)) (line held line' : List ℕ) → has_feed held ≡ false → line' ≡ line ++ first_line held
    → Consumes start (ahead held to_come) line → Consumes start (ahead [] to_come) line'
moves_all None to_come line held line' none e p = tt
moves_all (Some a) None line held line' none e p = absurd p
moves_all (Some a) (Some t) line held line' none e p =
    p ∙ sym (append_assoc line held t)
    ∙ ap (λ first. (line ++ first) ++ t) (sym (first_line-none held none))
    ∙ ap (λ first. first ++ t) (sym e)

-- a line without a line feed stays so
pub moved_no_feed : (line held line' : List ℕ) → has_feed line ≡ false → line' ≡ line ++ first_line held → has_feed line' ≡ false
moved_no_feed line held line' none e = ap has_feed e ∙ has_feed-append line (first_line held) none (has_feed-first_line held)

-- bytes to come were read, while none was held
pub reads : (start to_come to_come' : Option (List ℕ)) (line bytes : List ℕ) → Consumes to_come to_come' bytes
    → Consumes start (ahead [] to_come) line → Consumes start (ahead bytes to_come') line
reads None to_come to_come' line bytes q p = tt
reads (Some a) None to_come' line bytes q p = absurd p
reads (Some a) (Some t) None line bytes q p = absurd q
reads (Some a) (Some t) (Some t') line bytes q p = p ∙ ap (λ rest. line ++ rest) q

-- the line ends at a line feed that is held
pub takes : (start to_come : Option (List ℕ)) (line held : List ℕ) → has_feed line ≡ false → has_feed held ≡ true
    → Consumes start (ahead held to_come) line → TakesLine start (ahead (after_line held) to_come) (line ++ first_line held)
takes None to_come line held none some p = tt
takes (Some a) None line held none some p = absurd p
takes (Some a) (Some t) line held none some p = (
  λ e.
      let joined = length-append line (held ++ t) in
      let inner = length-append held t in
      let empty : 0 ≡ length (line ++ (held ++ t)) = ap length (sym e ∙ p) in
      let some_held = length-feed held some in
      absurd (omega arith),
  sym (ap first_line p ∙ first_line-append line held t none some),
  sym (ap after_line p ∙ after_line-append line held t none some),
)

-- the line ends where the input ends
pub takes_last : (start to_come : Option (List ℕ)) (line held : List ℕ) → has_feed line ≡ false → line ≢ [] → held ≡ []
    → IsAtEnd to_come → Consumes start (ahead held to_come) line → TakesLine start (ahead held to_come) line
takes_last None to_come line held none some empty ended p = tt
takes_last (Some a) None line held none some empty ended p = absurd p
takes_last (Some a) (Some t) line held none some empty ended p =
    let rest : held ++ t ≡ [] = ap (λ xs. xs ++ t) empty ∙ ended in
    let is : a ≡ line = p ∙ ap (λ xs. line ++ xs) rest ∙ append-nil line in (
      λ e. some (sym is ∙ e),
      sym (ap first_line is ∙ first_line-none line none),
      rest ∙ sym (ap after_line is ∙ after_line-none line none),
    )

-- nothing was ahead where nothing was taken and the input has ended
pub ends : (start to_come : Option (List ℕ)) → IsAtEnd to_come → Consumes start (ahead [] to_come) [] → IsAtEnd start
ends None to_come ended p = tt
ends (Some a) None ended p = absurd p
ends (Some a) (Some t) ended p = p ∙ ended

-- the line that was taken is too long
pub too_long_taken : (start new : Option (List ℕ)) (line : List ℕ) → line_limit < length line → TakesLine start new line → IsTooLong start
too_long_taken None new line long p = tt
too_long_taken (Some a) None line long p = absurd p
too_long_taken (Some a) (Some b) line long p = subst (λ xs. line_limit < length xs) p.1 long

-- the part of a line that was taken is too long
pub too_long_part : (start new : Option (List ℕ)) (line : List ℕ) → has_feed line ≡ false → line_limit < length line
    → Consumes start new line → IsTooLong start
too_long_part None new line none long p = tt
too_long_part (Some a) None line none long p = absurd p
too_long_part (Some a) (Some b) line none long p =
    let at_least = length-first_line line b none in
    let is : length (first_line a) ≡ length (first_line (line ++ b)) = ap (λ xs. length (first_line xs)) p in
    omega arith

too_long_by : (b : Bool) (start to_come : Option (List ℕ)) (line held line' : List ℕ) → has_feed held ≡ b
    → has_feed line ≡ false → line' ≡ line ++ first_line held → line_limit < length line' → Consumes start (ahead held to_come) line → IsTooLong start
too_long_by true start to_come line held line' some none e long p =
    too_long_taken start (ahead (after_line held) to_come) line' long (rw e (takes start to_come line held none some p))
too_long_by false start to_come line held line' none_held none e long p =
    too_long_part start (ahead [] to_come) line' (moved_no_feed line held line' none e) long (moves_all start to_come line held line' none_held e p)

-- a line is too long once too much of it was taken
pub too_long_moved : (start to_come : Option (List ℕ)) (line held line' : List ℕ) → has_feed line ≡ false → line' ≡ line ++ first_line held
    → line_limit < length line' → Consumes start (ahead held to_come) line → IsTooLong start
too_long_moved start to_come line held line' none e long p = too_long_by (has_feed held) start to_come line held line' refl none e long p

pub nothing_read : (xs : List ℕ) (more : Bool) → more ≡ false → (0 < length xs → IsTrue more) → xs ≡ []
nothing_read [] more none some = refl
nothing_read (x ∷ xs) more none some =
    let said : false ≡ true = sym none ∙ some (omega arith) in
    cc

pub something_taken : (xs : List ℕ) (n : ℕ) → n ≡ length xs → false ≡ (n == 0) → xs ≢ []
something_taken xs n long some = λ e.
    let none : n ≡ 0 = long ∙ ap length e in
    let same : false ≡ true = some ∙ ap (λ k. k == 0) none in
    cc
