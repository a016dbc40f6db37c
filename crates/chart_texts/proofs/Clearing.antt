-- What the front of a text is in the text without its block comments.
use Rattle.std.proofs.Common.{◌≡◌, ℕ, ◌≤◌, Bool, true, false, ◌&&◌, ◌==◌, if◌then◌else◌, List, [], ◌∷◌, ◌++◌, refl, sym, ◌∙◌, ap, subst, arith}
use Rattle.std.specs.List.{list_all}
use Rattle.std.proofs.lemmas.Bool.{ne_eqb, eqb-true, and_parts}
use Rattle.sc_values.specs.Name.{is_letter}
use Rattle.sc_text.specs.Pieces.{is_blank, is_word_byte, stays_in_line, line_feed, slash}
use Rattle.sc_text.proofs.Faces.{letter_above}
use Rattle.sc_text.proofs.Rows.{Stops}
use Rattle.extended_reader.specs.declared.comments.part.Part.TheVariants as part
use Rattle.extended_reader.specs.Comments.{star, space, unclosed, behind, opens, opened, is_closed, shown, cleared, without_comments, begins_comment}

-- ---- the first byte

pub plain_first : (b : ℕ) (rest : List ℕ) → (b == slash) ≡ false → without_comments (b ∷ rest) ≡ b ∷ without_comments rest
plain_first b [] e = refl
plain_first b (c ∷ rest) e =
    ap (λ t. (if t && (c == star) then opened (c ∷ rest) else b) ∷ cleared (if t then part.BehindSlash else part.Plain) (c ∷ rest)) e

-- what it becomes
pub data Shown (b : ℕ) (rest : List ℕ) : Type 0 where
  stays : shown part.Plain b rest ≡ b → Shown b rest
  opening : b ≡ slash → begins_comment (b ∷ rest) ≡ true → shown part.Plain b rest ≡ space → Shown b rest
  marked : b ≡ slash → shown part.Plain b rest ≡ unclosed → Shown b rest

is_slash : (b : ℕ) (rest : List ℕ) → opens b rest ≡ true → b ≡ slash
is_slash b [] e = absurd cc
is_slash b (c ∷ rest) e = eqb-true b slash (and_parts (b == slash) (c == star) e).0

pub shown_first : (b : ℕ) (rest : List ℕ) → Shown b rest
shown_first b rest = go (opens b rest) (is_closed part.BehindSlash rest) refl refl
  where
    go : (o c : Bool) → opens b rest ≡ o → is_closed part.BehindSlash rest ≡ c → Shown b rest
    go false c e f = stays (ap (λ t. if t then opened rest else b) e)
    go true true e f =
        opening (is_slash b rest e) (ap (λ t. t && is_closed part.BehindSlash rest) e ∙ f)
        (ap (λ t. if t then opened rest else b) e ∙ ap (λ t. if t then space else unclosed) f)
    go true false e f = marked (is_slash b rest e) (ap (λ t. if t then opened rest else b) e ∙ ap (λ t. if t then space else unclosed) f)

pub blank_is : (b : ℕ) (t : Bool) → (b == line_feed) ≡ t → is_blank (if t then b else space) ≡ true
blank_is b true e = subst (λ c. is_blank c ≡ true) (sym (eqb-true b line_feed e)) refl
blank_is b false e = refl

-- ---- comments to the end of their line

stays_line : (b : ℕ) → stays_in_line b ≡ true → (b == line_feed) ≡ false
stays_line b e = go (b == line_feed) refl
  where
    go : (t : Bool) → (b == line_feed) ≡ t → (b == line_feed) ≡ false
    go true f = absurd cc
    go false f = f

pub line_stays : (front rest : List ℕ) → list_all stays_in_line front ≡ true → cleared part.Line (front ++ rest) ≡ front ++ cleared part.Line rest
line_stays [] rest e = refl
line_stays (b ∷ front) rest e =
    let parts = and_parts (stays_in_line b) (list_all stays_in_line front) e in
    ap (λ t. b ∷ cleared (if t then part.Plain else part.Line) (front ++ rest)) (stays_line b parts.0)
    ∙ ap (λ l. b ∷ l) (line_stays front rest parts.1)

feeds : (b : ℕ) → stays_in_line b ≡ false → b ≡ line_feed
feeds b e = go (b == line_feed) refl
  where
    go : (t : Bool) → (b == line_feed) ≡ t → b ≡ line_feed
    go true f = eqb-true b line_feed f
    go false f = absurd cc

pub line_ends : (rest : List ℕ) → Stops stays_in_line rest → cleared part.Line rest ≡ without_comments rest
line_ends [] s = refl
line_ends (b ∷ rest) s =
    subst (λ c. cleared part.Line (c ∷ rest) ≡ without_comments (c ∷ rest)) (sym (feeds b s)) (sym (plain_first line_feed rest refl))

pub still_stops : (rest : List ℕ) → Stops stays_in_line rest → Stops stays_in_line (without_comments rest)
still_stops [] s = tt
still_stops (b ∷ rest) s =
    subst (λ c. Stops stays_in_line (without_comments (c ∷ rest))) (sym (feeds b s))
    (subst (λ l. Stops stays_in_line l) (sym (plain_first line_feed rest refl)) refl)

pub second_slash : (c : ℕ) → (if c == star then space else c) ≡ slash → c ≡ slash
second_slash c e = go (c == star) refl
  where
    go : (t : Bool) → (c == star) ≡ t → c ≡ slash
    go true f = let other : space ≡ slash = ap (λ u. if u then space else c) (sym f) ∙ e in absurd (omega (arith, other))
    go false f = ap (λ u. if u then space else c) (sym f) ∙ e

-- ---- a word

letter_no_slash : (b : ℕ) → is_letter b ≡ true → (b == slash) ≡ false
letter_no_slash b l = let above = letter_above b l in ne_eqb b slash (λ e. omega (arith, above, e))

pub keeps_word : (word rest : List ℕ) → list_all is_letter word ≡ true → without_comments (word ++ rest) ≡ word ++ without_comments rest
keeps_word [] rest l = refl
keeps_word (b ∷ word) rest l =
    let parts = and_parts (is_letter b) (list_all is_letter word) l in
    plain_first b (word ++ rest) (letter_no_slash b parts.0) ∙ ap (λ t. b ∷ t) (keeps_word word rest parts.1)

-- the word begins a text that is this without its block comments
pub record Behind (word text left : List ℕ) : Type 0 where
  pub rest : List ℕ
  pub parts : text ≡ word ++ rest
  pub is : left ≡ without_comments rest

pub back : (word text left : List ℕ) → list_all is_letter word ≡ true → without_comments text ≡ word ++ left → Behind word text left
back [] text left l e = record { rest = text; parts = refl; is = sym e }
back (b ∷ word) [] left l e = absurd cc
back (b ∷ word) (c ∷ text) left l e = go (back word text left (and_parts (is_letter b) (list_all is_letter word) l).1) (shown_first c text)
  where
    first : shown part.Plain c text ≡ b
    first = cc

    second : cleared (behind part.Plain c) text ≡ word ++ left
    second = cc

    letter : is_letter b ≡ true
    letter = (and_parts (is_letter b) (list_all is_letter word) l).0

    above : 65 ≤ b
    above = letter_above b letter

    go : (without_comments text ≡ word ++ left → Behind word text left) → Shown c text → Behind (b ∷ word) (c ∷ text) left
    go behind_first (stays f) =
        let same : c ≡ b = sym f ∙ first in
        let no : (c == slash) ≡ false = subst (λ x. (x == slash) ≡ false) (sym same) (letter_no_slash b letter) in
        let tail : without_comments text ≡ word ++ left = ap (λ t. cleared (if t then part.BehindSlash else part.Plain) text) (sym no) ∙ second in
        let more = behind_first tail in
        record { rest = more.rest; parts = ap (λ l. c ∷ l) more.parts ∙ ap (λ x. x ∷ (word ++ more.rest)) same; is = more.is }
    go behind_first (opening g begins f) =
        let other : space ≡ b = sym f ∙ first in
        let low = above in
        absurd (omega (arith, other, low))
    go behind_first (marked g f) =
        let other : unclosed ≡ b = sym f ∙ first in
        let low = above in
        absurd (omega (arith, other, low))

pub next_goes_on : (c : ℕ) (rest : List ℕ) → is_word_byte (shown part.Plain c rest) ≡ is_word_byte c
next_goes_on c rest = go (shown_first c rest)
  where
    go : Shown c rest → is_word_byte (shown part.Plain c rest) ≡ is_word_byte c
    go (stays f) = ap is_word_byte f
    go (opening e begins f) = ap is_word_byte f ∙ sym (ap is_word_byte e)
    go (marked e f) = ap is_word_byte f ∙ sym (ap is_word_byte e)
