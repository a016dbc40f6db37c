-- The pieces of a printed text are the longest that fit.
use Rattle.std.proofs.Common.{◌≡◌, ◌≢◌, ℕ, suc, ◌≤◌, true, false, List, [], ◌∷◌, ◌++◌, length, refl, sym, ap, subst, ◌∙◌, ◌⊎◌, inl, inr, arith}
use Rattle.std.specs.List.{list_all}
use Rattle.sc_values.specs.Name.{is_letter, is_digit}
use Rattle.sc_text.specs.declared.sign.Sign.{Sign}
use Rattle.sc_text.specs.declared.sign.Sign.TheVariants as sign
use Rattle.sc_text.specs.Words.{sign_text}
use Rattle.sc_text.specs.Pieces.{is_blank, is_word_byte, a_word, digits, a_sign, blank, IsLongest}
use Rattle.sc_text.proofs.Faces.{signed, Face, word_face, digits_face, sign_face, blank_face, comment_face, face, letter_only, digit_only, blank_only}
use Rattle.sc_text.proofs.Faces.{letter_above, digit_between}
use Rattle.sc_text.proofs.Rows.{Stops, no_longer}

-- what stands behind a printed expression: a space, `)`, `,`, `;` or nothing
abbrev pub Closes : List ℕ → Type 0
Closes [] = Unit {0}
Closes (c ∷ rest) = (c ≡ 32) ⊎ ((c ≡ 41) ⊎ ((c ≡ 44) ⊎ (c ≡ 59)))

-- what makes no sign and no comment of a sign of one byte before it: neither `=` nor `>` nor `/` is next
abbrev pub Quiet : List ℕ → Type 0
Quiet [] = Unit {0}
Quiet (c ∷ rest) = (c ≢ 61) × (c ≢ 62) × (c ≢ 47)

pub quiet_low : (c : ℕ) (rest : List ℕ) → c ≤ 46 → Quiet (c ∷ rest)
quiet_low c rest le = (λ e. omega (arith, le, e), λ e. omega (arith, le, e), λ e. omega (arith, le, e))

pub quiet_digit : (c : ℕ) (rest : List ℕ) → is_digit c ≡ true → Quiet (c ∷ rest)
quiet_digit c rest d =
    let b = digit_between c d in
    let low = b.0 in
    let high = b.1 in
    (λ e. omega (arith, low, high, e), λ e. omega (arith, low, high, e), λ e. omega (arith, low, high, e))

pub quiet_letter : (c : ℕ) (rest : List ℕ) → is_letter c ≡ true → Quiet (c ∷ rest)
quiet_letter c rest l =
    let a = letter_above c l in
    (λ e. omega (arith, a, e), λ e. omega (arith, a, e), λ e. omega (arith, a, e))

semicolon : (c : ℕ) (rest : List ℕ) → c ≡ 59 → Quiet (c ∷ rest)
semicolon c rest f = (λ e. omega (arith, f, e), λ e. omega (arith, f, e), λ e. omega (arith, f, e))

pub closes_quiet : (rest : List ℕ) → Closes rest → Quiet rest
closes_quiet [] h = tt
closes_quiet (c ∷ rest) (inl e) = quiet_low c rest (omega (arith, e))
closes_quiet (c ∷ rest) (inr (inl e)) = quiet_low c rest (omega (arith, e))
closes_quiet (c ∷ rest) (inr (inr (inl e))) = quiet_low c rest (omega (arith, e))
closes_quiet (c ∷ rest) (inr (inr (inr e))) = semicolon c rest e

pub closes_word : (rest : List ℕ) → Closes rest → Stops is_word_byte rest
closes_word [] h = tt
closes_word (c ∷ rest) (inl e) = subst (λ b. is_word_byte b ≡ false) (sym e) refl
closes_word (c ∷ rest) (inr (inl e)) = subst (λ b. is_word_byte b ≡ false) (sym e) refl
closes_word (c ∷ rest) (inr (inr (inl e))) = subst (λ b. is_word_byte b ≡ false) (sym e) refl
closes_word (c ∷ rest) (inr (inr (inr e))) = subst (λ b. is_word_byte b ≡ false) (sym e) refl

pub closes_digits : (rest : List ℕ) → Closes rest → Stops is_digit rest
closes_digits [] h = tt
closes_digits (c ∷ rest) (inl e) = subst (λ b. is_digit b ≡ false) (sym e) refl
closes_digits (c ∷ rest) (inr (inl e)) = subst (λ b. is_digit b ≡ false) (sym e) refl
closes_digits (c ∷ rest) (inr (inr (inl e))) = subst (λ b. is_digit b ≡ false) (sym e) refl
closes_digits (c ∷ rest) (inr (inr (inr e))) = subst (λ b. is_digit b ≡ false) (sym e) refl

-- ---- signs

one_no_more : {X : Type 0} (a c b : ℕ) (more : List ℕ) → a ∷ c ∷ more ≡ b ∷ [] → X
one_no_more a c b more e = absurd (cc)

second_is : (a c x y : ℕ) (more : List ℕ) → a ∷ c ∷ more ≡ x ∷ y ∷ [] → c ≡ y
second_is a c x y more e = cc

-- signs of two bytes end so
two_bytes : (t : Sign) (a c : ℕ) (more : List ℕ) → a ∷ c ∷ more ≡ sign_text t → (c ≡ 61) ⊎ (c ≡ 62)
two_bytes sign.OpenBrace a c more e = one_no_more a c 123 more e
two_bytes sign.CloseBrace a c more e = one_no_more a c 125 more e
two_bytes sign.OpenParenthesis a c more e = one_no_more a c 40 more e
two_bytes sign.CloseParenthesis a c more e = one_no_more a c 41 more e
two_bytes sign.Semicolon a c more e = one_no_more a c 59 more e
two_bytes sign.Colon a c more e = one_no_more a c 58 more e
two_bytes sign.Comma a c more e = one_no_more a c 44 more e
two_bytes sign.Becomes a c more e = one_no_more a c 61 more e
two_bytes sign.Equal a c more e = inl (second_is a c 61 61 more e)
two_bytes sign.NotEqual a c more e = inl (second_is a c 33 61 more e)
two_bytes sign.Less a c more e = one_no_more a c 60 more e
two_bytes sign.LessOrEqual a c more e = inl (second_is a c 60 61 more e)
two_bytes sign.Greater a c more e = one_no_more a c 62 more e
two_bytes sign.GreaterOrEqual a c more e = inl (second_is a c 62 61 more e)
two_bytes sign.Plus a c more e = one_no_more a c 43 more e
two_bytes sign.Minus a c more e = one_no_more a c 45 more e
two_bytes sign.Star a c more e = one_no_more a c 42 more e
two_bytes sign.Slash a c more e = one_no_more a c 47 more e
two_bytes sign.Percent a c more e = one_no_more a c 37 more e
two_bytes sign.Arrow a c more e = inr (second_is a c 45 62 more e)

-- the byte of a sign, of no other piece
pub record Plain (b : ℕ) : Type 0 where
  pub no_letter : is_letter b ≡ false
  pub no_digit : is_digit b ≡ false
  pub no_blank : is_blank b ≡ false

module _ (s : Sign) (b : ℕ) (is : sign_text s ≡ b ∷ []) (plain : Plain b) (rest : List ℕ) (quiet : Quiet rest) where
  no_more : (more behind : List ℕ) → rest ≡ more ++ behind → more ≢ [] → Face b more → ⊥
  no_more [] behind f some h = some refl
  no_more (c ∷ more) behind f some (word_face i j) = let n = plain.no_letter in cc
  no_more (c ∷ more) behind f some (digits_face i j) = let n = plain.no_digit in cc
  no_more (c ∷ more) behind f some (blank_face i j) = let n = plain.no_blank in cc
  no_more (c ∷ more) behind f some (comment_face tail e i j) =
      let q : Quiet (c ∷ (more ++ behind)) = subst Quiet f quiet in
      let same : c ≡ 47 = cc in
      q.2 same
  no_more (c ∷ more) behind f some (sign_face t e) = by (two_bytes t b c more e)
    where
      q : Quiet (c ∷ (more ++ behind))
      q = subst Quiet f quiet

      by : (c ≡ 61) ⊎ (c ≡ 62) → ⊥
      by (inl e) = q.0 e
      by (inr e) = q.1 e

  pub one_longest : IsLongest (sign_text s) rest
  one_longest = record {
    is_piece = a_sign s;
    longest = λ more behind f some p. no_more more behind f some (face (sign_text s ++ more) p b more (ap (λ t. t ++ more) is));
  }

module _ (s : Sign) (a b : ℕ) (is : sign_text s ≡ a ∷ b ∷ []) (plain : Plain a) (no_slash : a ≢ 47) (rest : List ℕ) where
  no_third : (more : List ℕ) → more ≢ [] → Face a (b ∷ more) → ⊥
  no_third [] some h = some refl
  no_third (c ∷ more) some (word_face i j) = let n = plain.no_letter in cc
  no_third (c ∷ more) some (digits_face i j) = let n = plain.no_digit in cc
  no_third (c ∷ more) some (blank_face i j) = let n = plain.no_blank in cc
  no_third (c ∷ more) some (comment_face tail e i j) = no_slash e
  no_third (c ∷ more) some (sign_face t e) =
      let short = (signed t).short in
      let whole : suc (suc (suc (length more))) ≡ suc (length (signed t).rest) = ap length (e ∙ (signed t).parts) in
      omega arith

  pub two_longest : IsLongest (sign_text s) rest
  two_longest = record {
    is_piece = a_sign s;
    longest = λ more behind f some p. no_third more some (face (sign_text s ++ more) p a (b ∷ more) (ap (λ t. t ++ more) is));
  }

-- ---- words, digits, spaces

pub word_longest : (first : ℕ) (more rest : List ℕ) → is_letter first ≡ true → list_all is_word_byte more ≡ true → Stops is_word_byte rest
    → IsLongest (first ∷ more) rest
word_longest first more rest l w stops = record {
  is_piece = a_word first more l w;
  longest = λ further behind f some p.
      no_longer is_word_byte more rest further behind stops f some (letter_only first (more ++ further) l (face (first ∷ (more ++ further)) p first
      (more ++ further) refl));
}

pub digits_longest : (first : ℕ) (more rest : List ℕ) → is_digit first ≡ true → list_all is_digit more ≡ true → Stops is_digit rest
    → IsLongest (first ∷ more) rest
digits_longest first more rest d w stops = record {
  is_piece = digits first more d w;
  longest = λ further behind f some p.
      no_longer is_digit more rest further behind stops f some (digit_only first (more ++ further) d (face (first ∷ (more ++ further)) p first
      (more ++ further) refl));
}

pub space_longest : (rest : List ℕ) → IsLongest (32 ∷ []) rest
space_longest rest = record {
  is_piece = blank 32 refl;
  longest = λ more behind f some p. some (blank_only 32 more refl (face (32 ∷ more) p 32 more refl));
}
