-- What stands at the front of a text, and whether its first token is a word.
use Rattle.std.proofs.Common.{◌≡◌, ◌≢◌, ℕ, ◌+◌, ◌<◌, ◌≤◌, Bool, true, false, List, [], ◌∷◌, ◌++◌, length, take, drop, get_or, refl, sym, ◌∙◌, ap, subst, arith}
use Rattle.std.proofs.Common.{IsTrue, not, length-drop, ◌⊎◌, inl, inr, ◌&&◌}
use Rattle.std.specs.Prelude.{◌↔◌}
use Rattle.std.proofs.lemmas.List.{take-append-drop, drop-drop, drop_all}
use Rattle.std.specs.List.{prefix_len, list_all}
use Rattle.sc_values.specs.Name.{is_letter}
use Rattle.sc_text.specs.Pieces.{is_blank, is_word_byte, stays_in_line, slash, IsPiece, IsLongest, a_word}
use Rattle.sc_text.specs.Tokens.{IsPassed, a_blank, a_comment}
use Rattle.sc_text.specs.Inside.{BeginsComment}
use Rattle.sc_text.proofs.Faces.{face, letter_only, letter_above, blank_below}
use Rattle.sc_text.proofs.Rows.{Stops, no_longer}
use Rattle.sc_text.proofs.Cutting.{blank_piece, comment_piece}
use Rattle.sc_text.proofs.Meanings.{blank_passes, comment_passes}
use Rattle.sc_text.specs.FirstToken.{BeginsWith, at_once, passes, is_word, IsNext, Passes, PassesNone}
use Rattle.sc_text.proofs.OneLongest.{one_longest, same_rest}

-- ---- white space and comments

pub blank_first : (text : List ℕ) → 0 < length text → is_blank (get_or text 0 0) ≡ true → Passes text 1
blank_first text some blank =
    let h = blank_piece text some blank in
    record { some = h.cuts.some; within = h.cuts.within; piece = h.cuts.piece; passed = blank_passes (take 1 text) h.made_of }

pub comment_first : (text : List ℕ) (n : ℕ) → BeginsComment text → n ≡ prefix_len stays_in_line text → Passes text n
comment_first text n begins is =
    let h = comment_piece text n begins is in
    record { some = h.cuts.some; within = h.cuts.within; piece = h.cuts.piece; passed = comment_passes (take n text) h.made_of }

-- what begins with neither passes none
pub neither : (text : List ℕ) → is_blank (get_or text 0 0) ≡ false → ¬ BeginsComment text → PassesNone text
neither text no_blank no_comment piece rest e p = go piece rest e p
  where
    go : (piece rest : List ℕ) → text ≡ piece ++ rest → IsPassed piece → ⊥
    go piece rest e (a_blank byte is) =
        let first : get_or text 0 0 ≡ byte = ap (λ t. get_or t 0 0) e in
        let other : is_blank byte ≡ false = subst (λ b. is_blank b ≡ false) first no_blank in
        cc
    go piece rest e (a_comment tail is) = no_comment (tail ++ rest, e)

-- ---- the first token

module _ (w : List ℕ) where
  -- either the word is next, or a piece is passed
  pub data Begins (text : List ℕ) : Type 0 where
    next : IsNext w text → Begins text
    later : (piece rest : List ℕ) → text ≡ piece ++ rest → IsLongest piece rest → IsPassed piece → BeginsWith w rest → Begins text

  begins : (text : List ℕ) → BeginsWith w text → Begins text
  begins text (at_once rest longest) = next (record { rest = rest; parts = refl; longest = longest })
  begins text (passes piece rest longest passed b) = later piece rest refl longest passed b

  pub next_begins : (text : List ℕ) → IsNext w text → BeginsWith w text
  next_begins text h = subst (BeginsWith w) (sym h.parts) (at_once h.rest h.longest)

  -- where nothing is passed, the word is next
  pub begins_next : (text : List ℕ) → PassesNone text → BeginsWith w text → IsNext w text
  begins_next text none b = go (begins text b)
    where
      go : Begins text → IsNext w text
      go (next h) = h
      go (later piece rest e longest passed b) = absurd (none piece rest e passed)

  pub begins_behind : (text : List ℕ) (n : ℕ) → Passes text n → BeginsWith w (drop n text) → BeginsWith w text
  begins_behind text n p b = subst (BeginsWith w) (take-append-drop n text) (passes (take n text) (drop n text) p.piece p.passed b)

-- ---- what is a word

-- a word has a first letter, and goes on with what words are made of
pub record Lettered (w : List ℕ) : Type 0 where
  pub first : ℕ
  pub rest : List ℕ
  pub parts : w ≡ first ∷ rest
  pub letter : is_letter first ≡ true
  pub others : list_all is_word_byte rest ≡ true

both : (a b : Bool) → (a && b) ≡ true → (a ≡ true) × (b ≡ true)
both true b e = (refl, e)
both false b e = cc

pub lettered : (w : List ℕ) → IsTrue (is_word w) → Lettered w
lettered [] h = cc
lettered (c ∷ rest) h =
    let b = both (is_letter c) (list_all is_word_byte rest) h in
    record { first = c; rest = rest; parts = refl; letter = b.0; others = b.1 }

passed_first : (bytes : List ℕ) → IsPassed bytes → (b : ℕ) (rest : List ℕ) → bytes ≡ b ∷ rest → (is_blank b ≡ true) ⊎ (b ≡ slash)
passed_first bytes (a_blank byte is) b rest e = let same : byte ≡ b = cc in inl (subst (λ c. is_blank c ≡ true) same is)
passed_first bytes (a_comment tail is) b rest e = inr cc

passed_some : (bytes : List ℕ) → IsPassed bytes → bytes ≢ []
passed_some bytes (a_blank byte is) e = cc
passed_some bytes (a_comment tail is) e = cc

-- it begins with no white space and no comment
not_passed : (w : List ℕ) → Lettered w → ¬ IsPassed w
not_passed w l p = go (passed_first w p l.first l.rest l.parts)
  where
    go : (is_blank l.first ≡ true) ⊎ (l.first ≡ slash) → ⊥
    go (inl is) = let above = letter_above l.first l.letter in let below = blank_below l.first is in absurd (omega arith)
    go (inr is) = let above = letter_above l.first l.letter in absurd (omega arith)

pub begins_past : (w : List ℕ) → Lettered w → (text : List ℕ) (n : ℕ) → Passes text n → BeginsWith w text → BeginsWith w (drop n text)
begins_past w l text n p b = go (begins w text b)
  where
    same : (piece rest : List ℕ) → text ≡ piece ++ rest → IsLongest piece rest → take n text ≡ piece
    same piece rest e longest = one_longest (take n text) (drop n text) piece rest (take-append-drop n text ∙ e) p.piece longest

    go : Begins w text → BeginsWith w (drop n text)
    go (next h) = absurd (not_passed w l (subst IsPassed (same w h.rest h.parts h.longest) p.passed))
    go (later piece rest e longest passed more) =
        let left : drop n text ≡ rest = same_rest (take n text) (drop n text) piece rest (take-append-drop n text ∙ e) (same piece rest e longest) in
        subst (BeginsWith w) (sym left) more

pub none_begin : (w : List ℕ) → Lettered w → (text : List ℕ) → text ≡ [] → ¬ BeginsWith w text
none_begin w l text empty b = go (begins w text b)
  where
    no_front : (piece rest : List ℕ) → text ≡ piece ++ rest → piece ≢ [] → ⊥
    no_front [] rest e some = some refl
    no_front (c ∷ piece) rest e some = cc

    go : Begins w text → ⊥
    go (next h) = let p = l.parts in no_front w h.rest h.parts (λ none. cc)
    go (later piece rest e longest passed more) = no_front piece rest e (passed_some piece passed)

-- ---- one piece more

abbrev pub IsSame : List ℕ → List ℕ → List ℕ → Type 0
IsSame w text rest = BeginsWith w rest ↔ BeginsWith w text

pub step_within : (at n : ℕ) (text : List ℕ) → at ≤ length text → Passes (drop at text) n → at + n ≤ length text
step_within at n text within p = let h = p.within in let left = length-drop at text in omega arith

pub step : (w : List ℕ) → IsTrue (is_word w) → (at n : ℕ) (text : List ℕ) → IsSame w text (drop at text) → Passes (drop at text) n
    → IsSame w text (drop (at + n) text)
step w is at n text so_far p =
    let behind : drop n (drop at text) ≡ drop (at + n) text = drop-drop n at text in
    subst (IsSame w text) behind
    (λ b. so_far.0 (begins_behind w (drop at text) n p b), λ b. begins_past w (lettered w is) (drop at text) n p (so_far.1 b))

-- ---- whether the word is next

stops_longest : (w : List ℕ) → Lettered w → (text rest : List ℕ) → text ≡ w ++ rest → Stops is_word_byte rest → IsNext w text
stops_longest w l text rest e stops = record {
  rest = rest;
  parts = e;
  longest = record {
    is_piece = subst IsPiece (sym l.parts) (a_word l.first l.rest l.letter l.others);
    longest = λ more behind f some p.
        no_longer is_word_byte l.rest rest more behind stops f some
        (letter_only l.first (l.rest ++ more) l.letter (face (w ++ more) p l.first (l.rest ++ more) (ap (λ v. v ++ more) l.parts)));
  };
}

one_more : (bytes : List ℕ) (c : ℕ) → list_all is_word_byte bytes ≡ true → is_word_byte c ≡ true → list_all is_word_byte (bytes ++ c ∷ []) ≡ true
one_more [] c all is = ap (λ b. b && true) is
one_more (d ∷ bytes) c all is =
    let b = both (is_word_byte d) (list_all is_word_byte bytes) all in
    let more = one_more bytes c b.1 is in
    ap (λ x. x && list_all is_word_byte (bytes ++ c ∷ [])) b.0 ∙ more

goes_further : (w : List ℕ) → Lettered w → (text rest : List ℕ) (c : ℕ) (tail : List ℕ) → text ≡ w ++ rest → rest ≡ c ∷ tail
    → is_word_byte c ≡ true → ¬ IsNext w text
goes_further w l text rest c tail e front goes_on h =
    let left : h.rest ≡ c ∷ tail = same_rest w h.rest w rest (sym h.parts ∙ e) refl ∙ front in
    h.longest.longest (c ∷ []) tail left (λ none. cc)
    (subst (λ v. IsPiece (v ++ c ∷ [])) (sym l.parts) (a_word l.first (l.rest ++ c ∷ []) l.letter (one_more l.rest c l.others goes_on)))

pub word_ends : (w : List ℕ) → IsTrue (is_word w) → (text rest : List ℕ) → text ≡ w ++ rest → length rest < 1 → IsTrue true ↔ IsNext w text
word_ends w is text [] e none = (λ t. stops_longest w (lettered w is) text [] e tt, λ h. refl)
word_ends w is text (c ∷ rest) e none = absurd (omega arith)

tells : (w : List ℕ) → Lettered w → (text : List ℕ) (c : ℕ) (tail : List ℕ) (b : Bool) → text ≡ w ++ (c ∷ tail) → b ≡ is_word_byte c
    → IsTrue (not b) ↔ IsNext w text
tells w l text c tail true e is = (λ t. absurd cc, λ h. absurd (goes_further w l text (c ∷ tail) c tail e refl (sym is) h))
tells w l text c tail false e is = (λ t. stops_longest w l text (c ∷ tail) e (sym is), λ h. refl)

pub word_goes_on : (w : List ℕ) → IsTrue (is_word w) → (text rest : List ℕ) (b : Bool) → text ≡ w ++ rest → 1 ≤ length rest
    → b ≡ is_word_byte (get_or rest 0 0) → IsTrue (not b) ↔ IsNext w text
word_goes_on w is text [] b e some says = absurd (omega arith)
word_goes_on w is text (c ∷ tail) b e some says = tells w (lettered w is) text c tail b e says

pub no_word : (w text : List ℕ) → ((rest : List ℕ) → text ≢ w ++ rest) → IsTrue false ↔ IsNext w text
no_word w text none = (λ t. absurd cc, λ h. absurd (none h.rest h.parts))

-- ---- where the loop ends

pub next_tells : (w text rest : List ℕ) (b : Bool) → IsSame w text rest → PassesNone rest → IsTrue b ↔ IsNext w rest
    → IsTrue b ↔ BeginsWith w text
next_tells w text rest b same none is =
    (λ t. same.0 (next_begins w rest (is.0 t)), λ h. is.1 (begins_next w rest none (same.1 h)))

pub at_end : (w : List ℕ) → IsTrue (is_word w) → (at : ℕ) (text : List ℕ) → length text ≤ at → IsSame w text (drop at text)
    → IsTrue false ↔ BeginsWith w text
at_end w is at text past same = (λ t. absurd cc, λ h. absurd (none_begin w (lettered w is) (drop at text) (drop_all at text past) (same.1 h)))
