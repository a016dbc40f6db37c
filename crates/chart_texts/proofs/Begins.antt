-- Whether a text is one of an extended chart, as what stands before its first token is passed.
use Rattle.std.proofs.Common.{◌≡◌, ◌≢◌, ℕ, ◌+◌, ◌<◌, ◌≤◌, Bool, true, false, ◌==◌, ◌&&◌, if◌then◌else◌, List, [], ◌∷◌, ◌++◌, map, length, take, drop}
use Rattle.std.proofs.Common.{length-drop, length-append, refl, sym, ◌∙◌, ap, subst, arith, IsTrue, IsFalse, Option, Some, None, MatchOption}
use Rattle.std.specs.Prelude.{◌↔◌}
use Rattle.std.specs.List.{list_all}
use Rattle.std.proofs.lemmas.Bool.{and_parts, eqb-true}
use Rattle.std.proofs.lemmas.List.{take-append-drop, drop-drop, drop_all}
use Rattle.sc_text.specs.Pieces.{is_blank, is_word_byte, stays_in_line, slash, line_feed, IsLongest, blank, comment}
use Rattle.sc_text.specs.Tokens.{IsPassed, a_blank, a_comment}
use Rattle.sc_text.specs.FirstToken.{BeginsWith, IsNext, Passes, PassesNone}
use Rattle.sc_text.proofs.Faces.{face, blank_only, comment_only}
use Rattle.sc_text.proofs.FirstToken.{lettered, begins_behind, begins_past, begins_next, next_begins, none_begin, word_ends, word_goes_on}
use Rattle.std.proofs.Math.Seq.{take-append_seam, drop-append_seam}
use Rattle.sc_text.proofs.Rows.{Stops, no_longer}
use Rattle.extended_reader.specs.declared.comments.part.Part.TheVariants as part
use Rattle.extended_reader.specs.Comments as clear
use Rattle.extended_reader.specs.Comments.{unclosed, behind, shown, cleared, without_comments, begins_comment, TakesComment}
use Rattle.chart_texts.specs.FirstWord.{extended, BeginsExtended}
use Rattle.chart_texts.specs.Inside.{PassesFront, PassesNoFront}
use Rattle.chart_texts.proofs.Clearing.{plain_first, Shown, stays, opening, marked, shown_first, blank_is, line_stays, line_ends, still_stops}
use Rattle.chart_texts.proofs.Clearing.{second_slash, keeps_word, back, next_goes_on}

-- ---- what is passed tells nothing

some : (piece rest : List ℕ) → IsPassed piece → [] ≢ piece ++ rest
some piece rest (a_blank byte is) e = cc
some piece rest (a_comment tail is) e = cc

long : (piece : List ℕ) → IsPassed piece → 0 < length piece
long piece (a_blank byte is) = omega arith
long piece (a_comment tail is) = omega arith

past : (piece rest : List ℕ) → IsLongest piece rest → IsPassed piece → BeginsWith extended rest ↔ BeginsWith extended (piece ++ rest)
past piece rest longest passed =
    let taken : take (length piece) (piece ++ rest) ≡ piece = take-append_seam piece rest in
    let left : drop (length piece) (piece ++ rest) ≡ rest = drop-append_seam piece rest in
    let all : length (piece ++ rest) ≡ length piece + length rest = length-append piece rest in
    let p : Passes (piece ++ rest) (length piece) =
    record {
      some = long piece passed;
      within = omega (arith, all);
      piece = subst (λ f. IsLongest f (drop (length piece) (piece ++ rest))) (sym taken) (subst (λ r. IsLongest piece r) (sym left) longest);
      passed = subst IsPassed (sym taken) passed;
    } in
    subst (λ r. BeginsWith extended r ↔ BeginsWith extended (piece ++ rest)) left
    (begins_behind extended (piece ++ rest) (length piece) p, begins_past extended (lettered extended refl) (piece ++ rest) (length piece) p)

-- ---- white space and comments

skip : (b : ℕ) (rest : List ℕ) → is_blank b ≡ true → BeginsWith extended rest ↔ BeginsWith extended (b ∷ rest)
skip b rest is =
    past (b ∷ []) rest
    (record { is_piece = blank b is; longest = λ more behind f other p. other (blank_only b more is (face (b ∷ more) p b more refl)) })
    (a_blank b is)

skip_all : (front rest : List ℕ) → BeginsWith extended rest ↔ BeginsWith extended (map clear.blank front ++ rest)
skip_all [] rest = (λ b. b, λ b. b)
skip_all (b ∷ front) rest =
    let first = skip (clear.blank b) (map clear.blank front ++ rest) (blank_is b (b == line_feed) refl) in
    let more = skip_all front rest in
    (λ s. first.0 (more.0 s), λ s. more.1 (first.1 s))

pub block_front : (text : List ℕ) (n : ℕ) → TakesComment text n → PassesFront text n
block_front text n h =
    record {
      some = h.some;
      within = h.within;
      same =
          subst (λ t. BeginsWith extended (without_comments (drop n text)) ↔ BeginsWith extended t) (sym h.cleared)
          (skip_all (take n text) (without_comments (drop n text)));
    }

no_slash : (b : ℕ) → is_blank b ≡ true → (b == slash) ≡ false
no_slash b is = go (b == slash) refl
  where
    go : (t : Bool) → (b == slash) ≡ t → (b == slash) ≡ false
    go true e = let other : is_blank slash ≡ true = subst (λ c. is_blank c ≡ true) (eqb-true b slash e) is in absurd cc
    go false e = e

-- behind a comment its line ends
comment_stops : (tail rest : List ℕ) → IsLongest (slash ∷ slash ∷ tail) rest → list_all stays_in_line tail ≡ true → Stops stays_in_line rest
comment_stops tail [] longest all = tt
comment_stops tail (c ∷ rest) longest all = go (stays_in_line c) refl
  where
    more_in_line : (front : List ℕ) → list_all stays_in_line front ≡ true → stays_in_line c ≡ true → list_all stays_in_line (front ++ c ∷ []) ≡ true
    more_in_line [] a e = ap (λ t. t && true) e
    more_in_line (d ∷ front) a e =
        let parts = and_parts (stays_in_line d) (list_all stays_in_line front) a in
        let more = more_in_line front parts.1 e in
        ap (λ t. t && list_all stays_in_line (front ++ c ∷ [])) parts.0 ∙ more

    go : (t : Bool) → stays_in_line c ≡ t → Stops stays_in_line (c ∷ rest)
    go true e = absurd (longest.longest (c ∷ []) rest refl (λ none. cc) (comment (tail ++ c ∷ []) (more_in_line tail all e)))
    go false e = e

-- what is passed in a text is passed where its block comments are left out
passed_same : (piece rest : List ℕ) → IsLongest piece rest → IsPassed piece → BeginsExtended rest ↔ BeginsExtended (piece ++ rest)
passed_same piece rest longest (a_blank b is) =
    subst (λ t. BeginsExtended rest ↔ BeginsWith extended t) (sym (plain_first b rest (no_slash b is))) (skip b (without_comments rest) is)
passed_same piece rest longest (a_comment tail is) =
    let stops : Stops stays_in_line rest = comment_stops tail rest longest is in
    let inside : without_comments (slash ∷ slash ∷ (tail ++ rest)) ≡ slash ∷ slash ∷ (tail ++ without_comments rest) =
    ap (λ l. slash ∷ slash ∷ l) (line_stays tail rest is ∙ ap (λ l. tail ++ l) (line_ends rest stops)) in
    subst (λ t. BeginsExtended rest ↔ BeginsWith extended t) (sym inside)
    (past (slash ∷ slash ∷ tail) (without_comments rest)
    (record {
      is_piece = comment tail is;
      longest = λ more behind f other p.
          no_longer stays_in_line tail (without_comments rest) more behind (still_stops rest stops) f other
          (comment_only (tail ++ more) (face (slash ∷ slash ∷ (tail ++ more)) p slash (slash ∷ (tail ++ more)) refl));
    })
    (a_comment tail is))

passed_front : (text : List ℕ) (n : ℕ) → Passes text n → PassesFront text n
passed_front text n h =
    record {
      some = h.some;
      within = h.within;
      same =
          subst (λ t. BeginsExtended (drop n text) ↔ BeginsExtended t) (take-append-drop n text)
          (passed_same (take n text) (drop n text) h.piece h.passed);
    }

-- ---- the word

-- the word is next exactly if it is where block comments are left out
same_next : (text rest : List ℕ) → text ≡ extended ++ rest → IsNext extended text ↔ IsNext extended (without_comments text)
same_next text [] e =
    let written = word_ends extended refl text [] e (omega arith) in
    let clear = word_ends extended refl (without_comments text) [] (ap without_comments e ∙ keeps_word extended [] refl) (omega arith) in
    (λ h. clear.0 refl, λ h. written.0 refl)
same_next text (c ∷ rest) e =
    let written = word_goes_on extended refl text (c ∷ rest) (is_word_byte c) e (omega arith) refl in
    let clear =
    word_goes_on extended refl (without_comments text) (without_comments (c ∷ rest)) (is_word_byte c)
    (ap without_comments e ∙ keeps_word extended (c ∷ rest) refl) (omega arith) (sym (next_goes_on c rest)) in
    (λ h. clear.0 (written.1 h), λ h. written.0 (clear.1 h))

word_begins : (text : List ℕ) → IsNext extended text → BeginsExtended text
word_begins text h = next_begins extended (without_comments text) ((same_next text h.rest h.parts).0 h)

-- what begins a text and is passed, where its block comments are left out, is white space or a comment there too
none_passed : (text : List ℕ) → PassesNone text → begins_comment text ≡ false → (piece rest : List ℕ) → without_comments text ≡ piece ++ rest → ¬ IsPassed piece
none_passed [] none open_less piece rest e p = some piece rest p e
none_passed (b ∷ text) none open_less piece rest e p = go (shown_first b text) piece e p
  where
    blanks : is_blank b ≡ true → ⊥
    blanks is = none (b ∷ []) text refl (a_blank b is)

    slashes : (text : List ℕ) → PassesNone (b ∷ text) → b ≡ slash → (tail : List ℕ) → cleared (behind part.Plain b) text ≡ slash ∷ tail → ⊥
    slashes [] none same tail f = cc
    slashes (c ∷ text) none same tail f =
        let second : shown (behind part.Plain b) c text ≡ slash = cc in
        let next : c ≡ slash = second_slash c (subst (λ x. shown (behind part.Plain x) c text ≡ slash) same second) in
        none (slash ∷ slash ∷ []) text (ap (λ x. x ∷ c ∷ text) same ∙ ap (λ x. slash ∷ x ∷ text) next) (a_comment [] refl)

    go : Shown b text → (piece : List ℕ) → without_comments (b ∷ text) ≡ piece ++ rest → IsPassed piece → ⊥
    go (stays f) piece e (a_blank byte is) =
        let first : shown part.Plain b text ≡ byte = cc in
        blanks (subst (λ c. is_blank c ≡ true) (sym (sym f ∙ first)) is)
    go (stays f) piece e (a_comment tail is) =
        let first : shown part.Plain b text ≡ slash = cc in
        let second : cleared (behind part.Plain b) text ≡ slash ∷ (tail ++ rest) = cc in
        slashes text none (sym f ∙ first) (tail ++ rest) second
    go (opening same begins f) piece e p = absurd cc
    go (marked same f) piece e (a_blank byte is) =
        let first : shown part.Plain b text ≡ byte = cc in
        let other : is_blank unclosed ≡ true = subst (λ c. is_blank c ≡ true) (sym (sym f ∙ first)) is in
        absurd cc
    go (marked same f) piece e (a_comment tail is) =
        let first : shown part.Plain b text ≡ slash = cc in
        let other : unclosed ≡ slash = sym f ∙ first in
        absurd (omega (arith, other))

begins_word : (text : List ℕ) → PassesNone text → begins_comment text ≡ false → BeginsExtended text → IsNext extended text
begins_word text none open_less b =
    let next = begins_next extended (without_comments text) (none_passed text none open_less) b in
    let written = back extended text next.rest refl next.parts in
    (same_next text written.rest written.parts).1 next

no_front : (text : List ℕ) → PassesNone text → begins_comment text ≡ false → PassesNoFront text
no_front text none open_less = (word_begins text, begins_word text none open_less)

pub front : (text : List ℕ) (n : Option ℕ) → IsFalse (begins_comment text) → MatchOption n (PassesNone text) (λ n. Passes text n)
    → MatchOption n (PassesNoFront text) (λ n. PassesFront text n)
front text None open_less h = no_front text h open_less
front text (Some n) open_less h = passed_front text n h

-- ---- the loop

abbrev pub IsSame : List ℕ → List ℕ → Type 0
IsSame text rest = BeginsExtended rest ↔ BeginsExtended text

pub step_within : (at n : ℕ) (text : List ℕ) → at ≤ length text → PassesFront (drop at text) n → at + n ≤ length text
step_within at n text within p = let h = p.within in let left = length-drop at text in omega arith

pub step : (at n : ℕ) (text : List ℕ) → IsSame text (drop at text) → PassesFront (drop at text) n → IsSame text (drop (at + n) text)
step at n text so_far p =
    let behind : drop n (drop at text) ≡ drop (at + n) text = drop-drop n at text in
    subst (IsSame text) behind (λ b. so_far.0 (p.same.0 b), λ b. p.same.1 (so_far.1 b))

pub next_tells : (text rest : List ℕ) (b : Bool) → IsSame text rest → PassesNoFront rest → IsTrue b ↔ IsNext extended rest → IsTrue b ↔ BeginsExtended text
next_tells text rest b same none is = (λ t. same.0 (none.0 (is.0 t)), λ h. is.1 (none.1 (same.1 h)))

pub at_end : (at : ℕ) (text : List ℕ) → length text ≤ at → IsSame text (drop at text) → IsTrue false ↔ BeginsExtended text
at_end at text past_end same = (
  λ t. absurd cc,
  λ h. absurd (none_begin extended (lettered extended refl) (without_comments (drop at text)) (ap without_comments (drop_all at text past_end)) (same.1 h)),
)
