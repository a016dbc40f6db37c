-- The longest piece at the front of a text, by its first bytes.
use Rattle.std.proofs.Common.{◌≡◌, ◌≢◌, ℕ, suc, ◌+◌, ◌<◌, ◌≤◌, Bool, true, false, ◌||◌, cond, List, [], ◌∷◌, ◌++◌, length, take, drop, get_or, refl, sym, ◌∙◌}
use Rattle.std.proofs.Common.{ap, subst, arith, length-append}
use Rattle.std.proofs.Math.Seq.{take-append_seam, drop-append_seam}
use Rattle.std.proofs.lemmas.List.{take-append-drop, length-take-le}
use Rattle.std.specs.List.{prefix_len}
use Rattle.sc_values.specs.Name.{is_letter, is_digit}
use Rattle.sc_text.specs.declared.sign.Sign.{Sign}
use Rattle.sc_text.specs.declared.piece.Piece.{Piece}
use Rattle.sc_text.specs.declared.piece.Piece.TheVariants as piece
use Rattle.sc_text.specs.declared.piece.Row.TheVariants as row
use Rattle.sc_text.specs.Words.{sign_text}
use Rattle.sc_text.specs.Pieces as pieces
use Rattle.sc_text.specs.Pieces.{is_blank, is_word_byte, stays_in_line, slash, IsPiece, IsLongest, BeginsNone}
use Rattle.sc_text.specs.Inside.{is_of, IsMadeOf, a_word, digits, a_sign, blank, comment, IsPieceAt, BeginsComment, BeginsSign, BeginsNoSign}
use Rattle.sc_text.proofs.Faces.{Face, word_face, digits_face, sign_face, blank_face, comment_face, face, no_empty, Signed, signed, letter_only, digit_only}
use Rattle.sc_text.proofs.Faces.{blank_only, comment_only, no_slashes}
use Rattle.sc_text.proofs.Rows.{Parted, parted, no_longer}

made_piece : (p : Piece) (bytes : List ℕ) → IsMadeOf p bytes → IsPiece bytes
made_piece p bytes (a_word f r i j) = pieces.a_word f r i j
made_piece p bytes (digits f r i j) = pieces.digits f r i j
made_piece p bytes (a_sign s) = pieces.a_sign s
made_piece p bytes (blank b i) = pieces.blank b i
made_piece p bytes (comment r i) = pieces.comment r i

some_bytes : (bytes : List ℕ) → IsPiece bytes → 0 < length bytes
some_bytes [] p = absurd (no_empty [] p refl)
some_bytes (b ∷ bytes) p = omega arith

abbrev NoLonger : List ℕ → List ℕ → Type 0
NoLonger front rest = (more behind : List ℕ) → rest ≡ more ++ behind → more ≢ [] → ¬ IsPiece (front ++ more)

cut_parts : (text front rest : List ℕ) (p : Piece) → text ≡ front ++ rest → IsMadeOf p front → NoLonger front rest → IsPieceAt text p (length front)
cut_parts text front rest p e made longest =
    let taken : take (length front) text ≡ front = ap (take (length front)) e ∙ take-append_seam front rest in
    let left : drop (length front) text ≡ rest = ap (drop (length front)) e ∙ drop-append_seam front rest in
    let len : length text ≡ length front + length rest = ap length e ∙ length-append front rest in
    let is : IsPiece front = made_piece p front made in
    record {
      cuts = record {
        some = some_bytes front is;
        within = omega arith;
        piece = subst (λ f. IsLongest f (drop (length front) text)) (sym taken)
            (subst (λ r. IsLongest front r) (sym left) (record { is_piece = is; longest = longest }));
      };
      made_of = subst (IsMadeOf p) (sym taken) made;
    }

-- the piece has n bytes
cut_at : (text front rest : List ℕ) (p : Piece) (n : ℕ) → text ≡ front ++ rest → length front ≡ n → IsMadeOf p front → NoLonger front rest → IsPieceAt text p n
cut_at text front rest p n e len made longest = subst (IsPieceAt text p) len (cut_parts text front rest p e made longest)

word_byte : (first : ℕ) → is_letter first ≡ true → is_word_byte first ≡ true
word_byte first e = ap (λ b. b || is_digit first) e

-- the length of a row whose first byte is of it
row_length : (p : ℕ → Bool) (first : ℕ) (text : List ℕ) (h : Parted p text) → p first ≡ true → length (first ∷ h.front) ≡ prefix_len p (first ∷ text)
row_length p first text h e =
    let long = h.long in
    let one : suc (length h.front) ≡ 1 + prefix_len p text = omega arith in
    one ∙ ap (λ b. cond b (1 + prefix_len p text) 0) (sym e)

pub word_piece : (text : List ℕ) (n : ℕ) → 0 < length text → is_letter (get_or text 0 0) ≡ true → n ≡ prefix_len (is_of row.Word) text
    → IsPieceAt text piece.Word n
word_piece [] n some l e = absurd (omega arith)
word_piece (first ∷ text) n some l e =
    let h = parted is_word_byte text in
    cut_at (first ∷ text) (first ∷ h.front) h.rest piece.Word n (ap (λ t. first ∷ t) h.parts)
    (row_length is_word_byte first text h (word_byte first l) ∙ sym e)
    (a_word first h.front l h.passes)
    (λ more behind f some_more p. no_longer is_word_byte h.front h.rest more behind h.stops f some_more
    (letter_only first (h.front ++ more) l (face (first ∷ (h.front ++ more)) p first (h.front ++ more) refl)))

pub digits_piece : (text : List ℕ) (n : ℕ) → 0 < length text → is_digit (get_or text 0 0) ≡ true → n ≡ prefix_len (is_of row.Digits) text
    → IsPieceAt text piece.Digits n
digits_piece [] n some l e = absurd (omega arith)
digits_piece (first ∷ text) n some l e =
    let h = parted is_digit text in
    cut_at (first ∷ text) (first ∷ h.front) h.rest piece.Digits n (ap (λ t. first ∷ t) h.parts)
    (row_length is_digit first text h l ∙ sym e)
    (digits first h.front l h.passes)
    (λ more behind f some_more p. no_longer is_digit h.front h.rest more behind h.stops f some_more
    (digit_only first (h.front ++ more) l (face (first ∷ (h.front ++ more)) p first (h.front ++ more) refl)))

pub blank_piece : (text : List ℕ) → 0 < length text → is_blank (get_or text 0 0) ≡ true → IsPieceAt text piece.Blank 1
blank_piece [] some l = absurd (omega arith)
blank_piece (first ∷ text) some l =
    cut_at (first ∷ text) (first ∷ []) text piece.Blank 1 refl refl (blank first l)
    (λ more behind f some_more p. some_more (blank_only first more l (face (first ∷ more) p first more refl)))

comment_of : (text : List ℕ) (n : ℕ) → n ≡ prefix_len (is_of row.Line) (slash ∷ slash ∷ text) → IsPieceAt (slash ∷ slash ∷ text) piece.Comment n
comment_of text n e =
    let h = parted stays_in_line text in
    let long = h.long in
    let len : length (slash ∷ slash ∷ h.front) ≡ n = let two : suc (suc (length h.front)) ≡ 1 + (1 + prefix_len stays_in_line text) = omega arith in
    two ∙ sym e in
    cut_at (slash ∷ slash ∷ text) (slash ∷ slash ∷ h.front) h.rest piece.Comment n (ap (λ t. slash ∷ slash ∷ t) h.parts) len
    (comment h.front h.passes)
    (λ more behind f some_more p. no_longer stays_in_line h.front h.rest more behind h.stops f some_more
    (comment_only (h.front ++ more) (face (slash ∷ slash ∷ (h.front ++ more)) p slash (slash ∷ (h.front ++ more)) refl)))

pub comment_piece : (text : List ℕ) (n : ℕ) → BeginsComment text → n ≡ prefix_len (is_of row.Line) text → IsPieceAt text piece.Comment n
comment_piece text n b e =
    subst (λ t. IsPieceAt t piece.Comment n) (sym b.1) (comment_of b.0 n (e ∙ ap (prefix_len (is_of row.Line)) b.1))

-- ---- signs

slash_alone : (r m tail : List ℕ) → length r ≡ 1 → r ++ m ≡ slash ∷ tail → r ≡ slash ∷ []
slash_alone [] m tail l e = absurd (omega arith)
slash_alone (c ∷ []) m tail l e = let same : c ≡ slash = cc in ap (λ b. b ∷ []) same
slash_alone (c ∷ d ∷ r) m tail l e = absurd (omega arith)

-- a text that begins with a sign's two bytes, and no comment: no piece is longer
pair_longest : (s : Sign) (rest : List ℕ) → length (sign_text s) ≡ 2 → NoLonger (sign_text s) rest
pair_longest s rest len more behind f some_more p = absurd
    (go more some_more (face (sign_text s ++ more) p g.first (g.rest ++ more) (ap (λ b. b ++ more) g.parts)))
  where
    g : Signed (sign_text s)
    g = signed s

    size : length g.rest ≡ 1
    size = let e : length (sign_text s) ≡ suc (length g.rest) = ap length g.parts in omega arith

    go : (m : List ℕ) → m ≢ [] → Face g.first (g.rest ++ m) → ⊥
    go m ne (word_face i j) = let n = g.no_letter in cc
    go m ne (digits_face i j) = let n = g.no_digit in cc
    go m ne (blank_face i j) = let n = g.no_blank in cc
    go [] ne (sign_face t e) = ne refl
    go (c ∷ m) ne (sign_face t e) =
        let short = (signed t).short in
        let own = size in
        let whole : suc (length (g.rest ++ c ∷ m)) ≡ suc (length (signed t).rest) = ap length (e ∙ (signed t).parts) in
        let long = length-append g.rest (c ∷ m) in
        omega arith
    go m ne (comment_face t e f i) =
        let one : g.rest ≡ slash ∷ [] = slash_alone g.rest m t size f in
        no_slashes s [] (ap (λ b. b ∷ slash ∷ []) (sym e) ∙ ap (λ r. g.first ∷ r) (sym one) ∙ sym g.parts)

pub pair_piece : (text : List ℕ) (s : Sign) → BeginsSign text 2 s → IsPieceAt text (piece.Sign s) 2
pair_piece text s b = cut_at text (sign_text s) b.tail (piece.Sign s) 2 b.parts b.long (a_sign s) (pair_longest s b.tail b.long)

no_bytes : (r : List ℕ) → length r ≡ 0 → r ≡ []
no_bytes [] e = refl
no_bytes (b ∷ r) e = absurd (omega arith)

-- a sign's one byte, where no sign of two bytes and no comment begins
one_longest : (text rest : List ℕ) (s : Sign) → text ≡ sign_text s ++ rest → length (sign_text s) ≡ 1 → ¬ BeginsComment text → BeginsNoSign text 2
    → NoLonger (sign_text s) rest
one_longest text rest s parts len plain pairless more behind f some_more p =
    absurd (go more f some_more (face (sign_text s ++ more) p g.first more (ap (λ b. b ++ more) alone)))
  where
    g : Signed (sign_text s)
    g = signed s

    alone : sign_text s ≡ g.first ∷ []
    alone =
        let e : length (sign_text s) ≡ suc (length g.rest) = ap length g.parts in
        let none : g.rest ≡ [] = no_bytes g.rest (omega arith) in
        g.parts ∙ ap (λ r. g.first ∷ r) none

    whole : (m : List ℕ) → rest ≡ m ++ behind → text ≡ g.first ∷ (m ++ behind)
    whole m e = parts ∙ ap (λ b. b ++ rest) alone ∙ ap (λ r. g.first ∷ r) e

    go : (m : List ℕ) → rest ≡ m ++ behind → m ≢ [] → Face g.first m → ⊥
    go m e ne (word_face i j) = let n = g.no_letter in cc
    go m e ne (digits_face i j) = let n = g.no_digit in cc
    go m e ne (blank_face i j) = let n = g.no_blank in cc
    go [] e ne (sign_face t h) = ne refl
    go (c ∷ []) e ne (sign_face t h) = pairless.unspelled t (g.first ∷ c ∷ []) behind (whole (c ∷ []) e) refl h
    go (c ∷ d ∷ m) e ne (sign_face t h) =
        let short = (signed t).short in
        let long : suc (suc (suc (length m))) ≡ suc (length (signed t).rest) = ap length (h ∙ (signed t).parts) in
        omega arith
    go m e ne (comment_face t h i j) =
        plain (t ++ behind, whole m e ∙ ap (λ b. b ∷ (m ++ behind)) h ∙ ap (λ r. slash ∷ (r ++ behind)) i)

pub one_piece : (text : List ℕ) (s : Sign) → ¬ BeginsComment text → BeginsNoSign text 2 → BeginsSign text 1 s → IsPieceAt text (piece.Sign s) 1
one_piece text s plain pairless b =
    cut_at text (sign_text s) b.tail (piece.Sign s) 1 b.parts b.long (a_sign s) (one_longest text b.tail s b.parts b.long plain pairless)

pub no_piece : (text : List ℕ) → is_letter (get_or text 0 0) ≡ false → is_digit (get_or text 0 0) ≡ false → is_blank (get_or text 0 0) ≡ false
    → ¬ BeginsComment text → BeginsNoSign text 2 → BeginsNoSign text 1 → BeginsNone text
no_piece text letter digit white plain pairless signless [] behind e p = no_empty [] p refl
no_piece text letter digit white plain pairless signless (first ∷ more) behind e p = go more e (face (first ∷ more) p first more refl)
  where
    begins : (m : List ℕ) → text ≡ first ∷ (m ++ behind) → get_or text 0 0 ≡ first
    begins m h = ap (λ t. get_or t 0 0) h

    go : (m : List ℕ) → text ≡ first ∷ (m ++ behind) → Face first m → ⊥
    go m h (word_face i j) = let n : is_letter first ≡ false = subst (λ b. is_letter b ≡ false) (begins m h) letter in cc
    go m h (digits_face i j) = let n : is_digit first ≡ false = subst (λ b. is_digit b ≡ false) (begins m h) digit in cc
    go m h (blank_face i j) = let n : is_blank first ≡ false = subst (λ b. is_blank b ≡ false) (begins m h) white in cc
    go [] h (sign_face t i) = signless.unspelled t (first ∷ []) behind h refl i
    go (c ∷ []) h (sign_face t i) = pairless.unspelled t (first ∷ c ∷ []) behind h refl i
    go (c ∷ d ∷ m) h (sign_face t i) =
        let short = (signed t).short in
        let long : suc (suc (suc (length m))) ≡ suc (length (signed t).rest) = ap length (i ∙ (signed t).parts) in
        omega arith
    go m h (comment_face t i j k) =
        plain (t ++ behind, h ∙ ap (λ b. b ∷ (m ++ behind)) i ∙ ap (λ r. slash ∷ (r ++ behind)) j)

pub begins_comment : (text : List ℕ) → 1 < length text → get_or text 0 0 ≡ slash → get_or text 1 0 ≡ slash → BeginsComment text
begins_comment [] some e f = absurd (omega arith)
begins_comment (a ∷ []) some e f = absurd (omega arith)
begins_comment (a ∷ b ∷ text) some e f = (text, ap (λ c. c ∷ b ∷ text) e ∙ ap (λ c. slash ∷ c ∷ text) f)

pub comment_begins : (text : List ℕ) → BeginsComment text → (1 < length text) × (get_or text 0 0 ≡ slash) × (get_or text 1 0 ≡ slash)
comment_begins text b =
    let len : length text ≡ suc (suc (length b.0)) = ap length b.1 in
    (omega arith, ap (λ t. get_or t 0 0) b.1, ap (λ t. get_or t 1 0) b.1)

-- a table's answer on the first n bytes
pub sign_found : (text : List ℕ) (n : ℕ) (s : Sign) → n ≤ length text → take n text ≡ sign_text s → BeginsSign text n s
sign_found text n s le e = record {
  tail = drop n text;
  parts = sym (take-append-drop n text) ∙ ap (λ f. f ++ drop n text) e;
  long = ap length (sym e) ∙ length-take-le n text le;
}

pub sign_missed : (text : List ℕ) (n : ℕ) → ((s : Sign) → take n text ≢ sign_text s) → BeginsNoSign text n
sign_missed text n h = record {
  unspelled = λ s front tail e len i.
      h s (subst (λ m. take m text ≡ sign_text s) len (ap (take (length front)) e ∙ take-append_seam front tail ∙ i));
}

pub sign_short : (text : List ℕ) (n : ℕ) → length text < n → BeginsNoSign text n
sign_short text n less = record {
  unspelled = λ s front tail e len i.
      let whole : length text ≡ length front + length tail = ap length e ∙ length-append front tail in
      absurd (omega arith);
}
