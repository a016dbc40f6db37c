-- What the bytes of a piece tell of it: its first byte tells words, digits, white space and the rest apart.
use Rattle.std.proofs.Common.{◌≡◌, ℕ, ◌≤◌, true, false, List, [], ◌∷◌, length, nat_eq, refl, sym, subst, arith}
use Rattle.std.proofs.lemmas.Bool.Decides.{nat_tests}
use Rattle.std.specs.Cmp.{unsigned_Decides}
use Rattle.std.specs.List.{list_all}
use Rattle.sc_values.specs.Name.{is_letter, is_digit}
use Rattle.sc_text.specs.declared.sign.Sign.{Sign}
use Rattle.sc_text.specs.declared.sign.Sign.TheVariants as sign
use Rattle.sc_text.specs.Words.{sign_text}
use Rattle.sc_text.specs.Pieces.{is_blank, is_word_byte, stays_in_line, slash, IsPiece, a_word, digits, a_sign, blank, comment}

pub letter_above : (b : ℕ) → is_letter b ≡ true → 65 ≤ b
letter_above b e = grind (arith, nat_tests)

pub digit_between : (b : ℕ) → is_digit b ≡ true → (48 ≤ b) × (b ≤ 57)
digit_between b e = grind (arith, nat_tests)

pub blank_below : (b : ℕ) → is_blank b ≡ true → b ≤ 32
blank_below b e = grind (arith, nat_tests)

-- the bytes of a sign: one or two, and the first is of no other piece
pub record Signed (bytes : List ℕ) : Type 0 where
  pub first : ℕ
  pub rest : List ℕ
  pub parts : bytes ≡ first ∷ rest
  pub no_letter : is_letter first ≡ false
  pub no_digit : is_digit first ≡ false
  pub no_blank : is_blank first ≡ false
  pub short : length rest ≤ 1

pub signed : (s : Sign) → Signed (sign_text s)
signed sign.OpenBrace = record { first = 123; rest = []; parts = refl; no_letter = refl; no_digit = refl; no_blank = refl; short = omega arith }
signed sign.CloseBrace = record { first = 125; rest = []; parts = refl; no_letter = refl; no_digit = refl; no_blank = refl; short = omega arith }
signed sign.OpenParenthesis = record { first = 40; rest = []; parts = refl; no_letter = refl; no_digit = refl; no_blank = refl; short = omega arith }
signed sign.CloseParenthesis = record { first = 41; rest = []; parts = refl; no_letter = refl; no_digit = refl; no_blank = refl; short = omega arith }
signed sign.Semicolon = record { first = 59; rest = []; parts = refl; no_letter = refl; no_digit = refl; no_blank = refl; short = omega arith }
signed sign.Colon = record { first = 58; rest = []; parts = refl; no_letter = refl; no_digit = refl; no_blank = refl; short = omega arith }
signed sign.Comma = record { first = 44; rest = []; parts = refl; no_letter = refl; no_digit = refl; no_blank = refl; short = omega arith }
signed sign.Becomes = record { first = 61; rest = []; parts = refl; no_letter = refl; no_digit = refl; no_blank = refl; short = omega arith }
signed sign.Equal = record { first = 61; rest = 61 ∷ []; parts = refl; no_letter = refl; no_digit = refl; no_blank = refl; short = omega arith }
signed sign.NotEqual = record { first = 33; rest = 61 ∷ []; parts = refl; no_letter = refl; no_digit = refl; no_blank = refl; short = omega arith }
signed sign.Less = record { first = 60; rest = []; parts = refl; no_letter = refl; no_digit = refl; no_blank = refl; short = omega arith }
signed sign.LessOrEqual = record { first = 60; rest = 61 ∷ []; parts = refl; no_letter = refl; no_digit = refl; no_blank = refl; short = omega arith }
signed sign.Greater = record { first = 62; rest = []; parts = refl; no_letter = refl; no_digit = refl; no_blank = refl; short = omega arith }
signed sign.GreaterOrEqual = record { first = 62; rest = 61 ∷ []; parts = refl; no_letter = refl; no_digit = refl; no_blank = refl; short = omega arith }
signed sign.Plus = record { first = 43; rest = []; parts = refl; no_letter = refl; no_digit = refl; no_blank = refl; short = omega arith }
signed sign.Minus = record { first = 45; rest = []; parts = refl; no_letter = refl; no_digit = refl; no_blank = refl; short = omega arith }
signed sign.Star = record { first = 42; rest = []; parts = refl; no_letter = refl; no_digit = refl; no_blank = refl; short = omega arith }
signed sign.Slash = record { first = 47; rest = []; parts = refl; no_letter = refl; no_digit = refl; no_blank = refl; short = omega arith }
signed sign.Percent = record { first = 37; rest = []; parts = refl; no_letter = refl; no_digit = refl; no_blank = refl; short = omega arith }
signed sign.Arrow = record { first = 45; rest = 62 ∷ []; parts = refl; no_letter = refl; no_digit = refl; no_blank = refl; short = omega arith }

-- what a piece that begins with this byte is
pub data Face (first : ℕ) (rest : List ℕ) : Type 0 where
  word_face : is_letter first ≡ true → list_all is_word_byte rest ≡ true → Face first rest
  digits_face : is_digit first ≡ true → list_all is_digit rest ≡ true → Face first rest
  sign_face : (s : Sign) → first ∷ rest ≡ sign_text s → Face first rest
  blank_face : is_blank first ≡ true → rest ≡ [] → Face first rest
  comment_face : (tail : List ℕ) → first ≡ slash → rest ≡ slash ∷ tail → list_all stays_in_line tail ≡ true → Face first rest

pub face : (bytes : List ℕ) → IsPiece bytes → (first : ℕ) (rest : List ℕ) → bytes ≡ first ∷ rest → Face first rest
face bytes (a_word f r i j) first rest e =
    let same : f ≡ first = cc in
    let others : r ≡ rest = cc in
    word_face (subst (λ b. is_letter b ≡ true) same i) (subst (λ b. list_all is_word_byte b ≡ true) others j)
face bytes (digits f r i j) first rest e =
    let same : f ≡ first = cc in
    let others : r ≡ rest = cc in
    digits_face (subst (λ b. is_digit b ≡ true) same i) (subst (λ b. list_all is_digit b ≡ true) others j)
face bytes (a_sign s) first rest e = sign_face s (sym e)
face bytes (blank b i) first rest e =
    let same : b ≡ first = cc in
    let others : rest ≡ [] = cc in
    blank_face (subst (λ c. is_blank c ≡ true) same i) others
face bytes (comment r i) first rest e =
    let same : first ≡ slash = cc in
    let others : rest ≡ slash ∷ r = cc in
    comment_face r same others i

pub no_empty : (bytes : List ℕ) → IsPiece bytes → bytes ≡ [] → ⊥
no_empty bytes (a_word f r i j) e = cc
no_empty bytes (digits f r i j) e = cc
no_empty bytes (a_sign s) e = let p = (signed s).parts in cc
no_empty bytes (blank b i) e = cc
no_empty bytes (comment r i) e = cc

-- ---- each first byte is of one kind alone

pub letter_only : (first : ℕ) (rest : List ℕ) → is_letter first ≡ true → Face first rest → list_all is_word_byte rest ≡ true
letter_only first rest l (word_face i j) = j
letter_only first rest l (digits_face i j) = let a = letter_above first l in let d = digit_between first i in absurd (omega arith)
letter_only first rest l (sign_face s e) =
    let p = (signed s).parts in
    let n = (signed s).no_letter in
    let same : first ≡ (signed s).first = cc in
    let letter : is_letter (signed s).first ≡ true = subst (λ b. is_letter b ≡ true) same l in
    absurd (cc)
letter_only first rest l (blank_face i e) = let a = letter_above first l in let b = blank_below first i in absurd (omega arith)
letter_only first rest l (comment_face t e f i) = let a = letter_above first l in absurd (omega arith)

pub digit_only : (first : ℕ) (rest : List ℕ) → is_digit first ≡ true → Face first rest → list_all is_digit rest ≡ true
digit_only first rest l (word_face i j) = let a = letter_above first i in let d = digit_between first l in absurd (omega arith)
digit_only first rest l (digits_face i j) = j
digit_only first rest l (sign_face s e) =
    let p = (signed s).parts in
    let n = (signed s).no_digit in
    let same : first ≡ (signed s).first = cc in
    let digit : is_digit (signed s).first ≡ true = subst (λ b. is_digit b ≡ true) same l in
    absurd (cc)
digit_only first rest l (blank_face i e) = let a = digit_between first l in let b = blank_below first i in absurd (omega arith)
digit_only first rest l (comment_face t e f i) = let a = digit_between first l in absurd (omega arith)

pub blank_only : (first : ℕ) (rest : List ℕ) → is_blank first ≡ true → Face first rest → rest ≡ []
blank_only first rest l (word_face i j) = let a = letter_above first i in let d = blank_below first l in absurd (omega arith)
blank_only first rest l (digits_face i j) = let a = digit_between first i in let d = blank_below first l in absurd (omega arith)
blank_only first rest l (sign_face s e) =
    let p = (signed s).parts in
    let n = (signed s).no_blank in
    let same : first ≡ (signed s).first = cc in
    let white : is_blank (signed s).first ≡ true = subst (λ b. is_blank b ≡ true) same l in
    absurd (cc)
blank_only first rest l (blank_face i e) = e
blank_only first rest l (comment_face t e f i) = let b = blank_below first l in absurd (omega arith)

differ : (a b : ℕ) (xs ys : List ℕ) → nat_eq a b ≡ false → a ∷ xs ≡ b ∷ ys → ⊥
differ a b xs ys n e =
    let same : a ≡ b = cc in
    let equal : nat_eq a b ≡ true = (unsigned_Decides a b).1 same in
    cc

longer : (a b c : ℕ) (xs : List ℕ) → a ∷ b ∷ xs ≡ c ∷ [] → ⊥
longer a b c xs e = cc

pub no_slashes : (s : Sign) (rest : List ℕ) → slash ∷ slash ∷ rest ≡ sign_text s → ⊥
no_slashes sign.OpenBrace rest e = differ 47 123 (slash ∷ rest) [] refl e
no_slashes sign.CloseBrace rest e = differ 47 125 (slash ∷ rest) [] refl e
no_slashes sign.OpenParenthesis rest e = differ 47 40 (slash ∷ rest) [] refl e
no_slashes sign.CloseParenthesis rest e = differ 47 41 (slash ∷ rest) [] refl e
no_slashes sign.Semicolon rest e = differ 47 59 (slash ∷ rest) [] refl e
no_slashes sign.Colon rest e = differ 47 58 (slash ∷ rest) [] refl e
no_slashes sign.Comma rest e = differ 47 44 (slash ∷ rest) [] refl e
no_slashes sign.Becomes rest e = differ 47 61 (slash ∷ rest) [] refl e
no_slashes sign.Equal rest e = differ 47 61 (slash ∷ rest) (61 ∷ []) refl e
no_slashes sign.NotEqual rest e = differ 47 33 (slash ∷ rest) (61 ∷ []) refl e
no_slashes sign.Less rest e = differ 47 60 (slash ∷ rest) [] refl e
no_slashes sign.LessOrEqual rest e = differ 47 60 (slash ∷ rest) (61 ∷ []) refl e
no_slashes sign.Greater rest e = differ 47 62 (slash ∷ rest) [] refl e
no_slashes sign.GreaterOrEqual rest e = differ 47 62 (slash ∷ rest) (61 ∷ []) refl e
no_slashes sign.Plus rest e = differ 47 43 (slash ∷ rest) [] refl e
no_slashes sign.Minus rest e = differ 47 45 (slash ∷ rest) [] refl e
no_slashes sign.Star rest e = differ 47 42 (slash ∷ rest) [] refl e
no_slashes sign.Slash rest e = longer 47 47 47 rest e
no_slashes sign.Percent rest e = differ 47 37 (slash ∷ rest) [] refl e
no_slashes sign.Arrow rest e = differ 47 45 (slash ∷ rest) (62 ∷ []) refl e

-- two slashes begin no sign
pub comment_only : (rest : List ℕ) → Face slash (slash ∷ rest) → list_all stays_in_line rest ≡ true
comment_only rest (word_face i j) = let a = letter_above slash i in absurd (omega arith)
comment_only rest (digits_face i j) = let a = digit_between slash i in absurd (omega arith)
comment_only rest (sign_face s e) = absurd (no_slashes s rest e)
comment_only rest (blank_face i e) = let b = blank_below slash i in absurd (omega arith)
comment_only rest (comment_face t e f i) = let same : t ≡ rest = cc in subst (λ r. list_all stays_in_line r ≡ true) same i
