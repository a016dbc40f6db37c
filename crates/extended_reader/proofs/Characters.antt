-- A text without its block comments is a text: of each character all bytes stay, or each becomes a space.
use Rattle.std.proofs.Common.{◌≡◌, ℕ, ◌<◌, ◌≤◌, Bool, true, false, cond, ◌&&◌, ◌==◌, ltb, List, [], ◌∷◌, ◌++◌, refl, sym, ◌∙◌, ap, subst, arith, IsUtf8}
use Rattle.std.proofs.lemmas.Str.{IsUtf8-nil, IsUtf8-append, IsUtf8-encode, encode_ascii}
use Rattle.std.proofs.lemmas.Bool.{ne_eqb, le-ltb, ltb-true, ltb-false}
use Rattle.std.proofs.Math.Utf8.{scalar, scalars, low_scalar, encode, encodes}
use Rattle.extended_reader.specs.declared.comments.part.Part.{Part}
use Rattle.extended_reader.specs.declared.comments.part.Part.TheVariants as part
use Rattle.extended_reader.specs.Comments.{slash, star, line_feed, space, unclosed, behind, opens, is_closed, opened, shown, cleared, without_comments}

-- ---- bytes of which characters of several bytes are made

abbrev AllHigh : List ℕ → Type 0
AllHigh [] = Unit {0}
AllHigh (b ∷ bytes) = (128 ≤ b) × AllHigh bytes

-- the bytes of such a part stay
abbrev pub stays : Part → Bool
stays part.Plain = true
stays part.BehindSlash = true
stays part.Line = true
stays part.Block = false
stays part.BehindStar = false

no_other : (b n : ℕ) → 128 ≤ b → n < 128 → (b == n) ≡ false
no_other b n high low = ne_eqb b n (λ e. omega (arith, high, low, e))

high_stays : (p : Part) (b : ℕ) (rest : List ℕ) → stays p ≡ true → 128 ≤ b → (shown p b rest ≡ b) × (stays (behind p b) ≡ true)
high_stays part.Plain b [] s high = let n = no_other b slash high (omega arith) in (refl, cc)
high_stays part.Plain b (c ∷ rest) s high = let n = no_other b slash high (omega arith) in (cc, cc)
high_stays part.BehindSlash b rest s high =
    let n = no_other b slash high (omega arith) in
    let m = no_other b star high (omega arith) in
    (cc, cc)
high_stays part.Line b rest s high = let n = no_other b line_feed high (omega arith) in (refl, cc)
high_stays part.Block b rest s high = absurd cc
high_stays part.BehindStar b rest s high = absurd cc

high_cleared : (p : Part) (b : ℕ) (rest : List ℕ) → stays p ≡ false → 128 ≤ b → (shown p b rest ≡ space) × (stays (behind p b) ≡ false)
high_cleared part.Plain b rest s high = absurd cc
high_cleared part.BehindSlash b rest s high = absurd cc
high_cleared part.Line b rest s high = absurd cc
high_cleared part.Block b rest s high =
    let n = no_other b line_feed high (omega arith) in
    let m = no_other b star high (omega arith) in
    (cc, cc)
high_cleared part.BehindStar b rest s high =
    let n = no_other b line_feed high (omega arith) in
    let m = no_other b star high (omega arith) in
    let k = no_other b slash high (omega arith) in
    (cc, cc)

-- ---- one character more

module _ (rest : List ℕ) where
  -- where a part stays, the bytes stay
  high_stay : (p : Part) (front : List ℕ) → stays p ≡ true → AllHigh front → (q : Part) × (cleared p (front ++ rest) ≡ front ++ cleared q rest)
  high_stay p [] s high = (p, refl)
  high_stay p (b ∷ front) s high =
      let first = high_stays p b (front ++ rest) s high.0 in
      let more = high_stay (behind p b) front first.1 high.1 in
      (more.0, ap (λ c. c ∷ cleared (behind p b) (front ++ rest)) first.0 ∙ ap (λ l. b ∷ l) more.1)

  module _ (is : (q : Part) → IsUtf8 (cleared q rest)) where
    behind_low : (b : ℕ) (bytes : List ℕ) → b < 128 → IsUtf8 bytes → IsUtf8 (b ∷ bytes)
    behind_low b bytes low h =
        IsUtf8-append (b ∷ []) bytes (b ∷ [], (ap (λ x. x && true) (low_scalar b (omega (arith, low))), ap (λ l. l ++ []) (encode_ascii b low))) h

    -- else each becomes a space
    high_clear : (p : Part) (front : List ℕ) → stays p ≡ false → AllHigh front → IsUtf8 (cleared p (front ++ rest))
    high_clear p [] s high = is p
    high_clear p (b ∷ front) s high =
        let first = high_cleared p b (front ++ rest) s high.0 in
        subst (λ c. IsUtf8 (c ∷ cleared (behind p b) (front ++ rest))) (sym first.0)
        (behind_low space (cleared (behind p b) (front ++ rest)) (omega arith) (high_clear (behind p b) front first.1 high.1))

    several : (p : Part) (front : List ℕ) → AllHigh front → IsUtf8 front → (s : Bool) → stays p ≡ s → IsUtf8 (cleared p (front ++ rest))
    several p front high text true s =
        let more = high_stay p front s high in
        subst IsUtf8 (sym more.1) (IsUtf8-append front (cleared more.0 rest) text (is more.0))
    several p front high text false s = high_clear p front s high

    is_low : (c : Bool) (n m : ℕ) → n < 128 → m < 128 → cond c n m < 128
    is_low true n m a b = a
    is_low false n m a b = b

    shown_low : (p : Part) (b : ℕ) → b < 128 → shown p b rest < 128
    shown_low part.Plain b low = is_low (opens b rest) (opened rest) b (opened_low (is_closed part.BehindSlash rest)) low
      where
        opened_low : (c : Bool) → cond c space unclosed < 128
        opened_low true = omega arith
        opened_low false = omega arith
    shown_low part.BehindSlash b low = is_low (b == star) space b (omega arith) low
    shown_low part.Line b low = low
    shown_low part.Block b low = is_low (b == line_feed) b space low (omega arith)
    shown_low part.BehindStar b low = is_low (b == line_feed) b space low (omega arith)

    one : (p : Part) (b : ℕ) → b < 128 → IsUtf8 (cleared p (b ∷ rest))
    one p b low = behind_low (shown p b rest) (cleared (behind p b) rest) (shown_low p b low) (is (behind p b))

-- ---- the bytes of a character

chosen : (t u v : Bool) (w x y z : List ℕ) → t ≡ false → AllHigh x → AllHigh y → AllHigh z → AllHigh (cond t w (cond u x (cond v y z)))
chosen true u v w x y z e h i j = absurd cc
chosen false true v w x y z e h i j = h
chosen false false true w x y z e h i j = i
chosen false false false w x y z e h i j = j

high_parts : (c : ℕ) → 128 ≤ c → AllHigh (encode c)
unfolding encode
high_parts c high =
    chosen (ltb c 128) (ltb c 2048) (ltb c 65536) _ _ _ _ (le-ltb c 128 high)
    (omega arith, (omega arith, tt)) (omega arith, (omega arith, (omega arith, tt)))
    (omega arith, (omega arith, (omega arith, (omega arith, tt))))

-- ---- texts

both : (a b : Bool) → (a && b) ≡ true → (a ≡ true) × (b ≡ true)
both true b e = (refl, e)
both false b e = absurd cc

clears : (cs : List ℕ) (p : Part) → scalars cs ≡ true → IsUtf8 (cleared p (encodes cs))
clears [] p good = IsUtf8-nil
clears (c ∷ cs) p good = by_size (ltb c 128) refl (λ q. clears cs q (both (scalar c) (scalars cs) good).1)
  where
    by_size : (low : Bool) → ltb c 128 ≡ low → ((q : Part) → IsUtf8 (cleared q (encodes cs))) → IsUtf8 (cleared p (encode c ++ encodes cs))
    by_size true is h =
        let few : c < 128 = ltb-true c 128 is in
        subst (λ f. IsUtf8 (cleared p (f ++ encodes cs))) (sym (encode_ascii c few)) (one (encodes cs) h p c few)
    by_size false is h =
        several (encodes cs) h p (encode c) (high_parts c (ltb-false c 128 is)) (IsUtf8-encode c (both (scalar c) (scalars cs) good).0) (stays p) refl

pub clears_text : (text : List ℕ) → IsUtf8 text → IsUtf8 (without_comments text)
clears_text text h = subst (λ t. IsUtf8 (cleared part.Plain t)) h.1.1 (clears h.0 part.Plain h.1.0)
