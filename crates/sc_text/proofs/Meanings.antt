-- What the bytes of a piece are by the language: a token, or why they are none.
use Rattle.std.proofs.Common.{◌≡◌, ◌≢◌, ℕ, suc, ◌+◌, ◌-◌, ◌*◌, ◌<◌, ◌&&◌, Bool, true, false, nat_le, List, ◌∷◌, length, drop, get_or, sym, ◌∙◌, ap, subst}
use Rattle.std.proofs.Common.{arith, pos, ℤ, drop-cons}
use Rattle.std.proofs.Common.{to_z, of_z, w32}
use Rattle.std.proofs.lemmas.Int.{to_z-of_z}
use mir.Val.{SFits}
use Rattle.std.proofs.lemmas.Bool.Decides.{nat_tests}
use Rattle.std.specs.List.{list_all}
use Rattle.sc_values.specs.Name.{is_letter, is_digit, is_name}
use Rattle.sc_text.specs.declared.word.Word.{Word}
use Rattle.sc_text.specs.declared.sign.Sign.{Sign}
use Rattle.sc_text.specs.declared.piece.Piece.TheVariants as piece
use Rattle.sc_text.specs.declared.token.TokenKind.TheVariants as kind
use Rattle.sc_text.specs.declared.read_fault.FaultKind.TheVariants as broken
use Rattle.sc_text.specs.declared.language.Language.{Language}
use Rattle.sc_text.specs.Words.{word_text}
use Rattle.sc_text.specs.Pieces.{is_word_byte}
use Rattle.sc_text.specs.Tokens as scanned
use Rattle.sc_text.specs.Tokens.{Spells, IsPassed, IsRefused, IsReserved, allows, has_idle_zero, number_limit, written, written_behind}
use Rattle.sc_text.specs.Inside.{IsMadeOf, a_word, digits, a_sign, blank, comment, IsValue}
use Rattle.sc_text.proofs.Scanning.{written_grows}

pub sign_spelled : (l : Language) (bytes : List ℕ) (s : Sign) → IsMadeOf (piece.Sign s) bytes → Spells l bytes (kind.Sign s)
sign_spelled l bytes s (a_sign t) = scanned.a_sign t

pub blank_passes : (bytes : List ℕ) → IsMadeOf piece.Blank bytes → IsPassed bytes
blank_passes bytes (blank b i) = scanned.a_blank b i

pub comment_passes : (bytes : List ℕ) → IsMadeOf piece.Comment bytes → IsPassed bytes
comment_passes bytes (comment r i) = scanned.a_comment r i

pub word_spelled : (l : Language) (bytes : List ℕ) (w : Word) → bytes ≡ word_text w → Spells l bytes (kind.Word w)
word_spelled l bytes w e = subst (λ b. Spells l b (kind.Word w)) (sym e) (scanned.a_word w)

pub name_spelled : (l : Language) (bytes : List ℕ) → IsMadeOf piece.Word bytes → ((w : Word) → bytes ≢ word_text w) → allows l (get_or bytes 0 0) ≡ true
    → is_name bytes ≡ true → Spells l bytes (kind.Name bytes)
name_spelled l bytes (a_word f r i j) free open_to n = scanned.a_name f r n open_to (λ h. free h.0 h.1)

pub name_barred : (l : Language) (bytes : List ℕ) → IsMadeOf piece.Word bytes → allows l (get_or bytes 0 0) ≡ false → IsRefused l bytes broken.Token
name_barred l bytes (a_word f r i j) shut = scanned.under_bar f r i shut

too_long : (a b : Bool) (n : ℕ) → a ≡ true → b ≡ true → (a && b && nat_le n 64) ≡ false → 64 < n
too_long true true n e f h = grind (arith, nat_tests)
too_long true false n e f h = cc
too_long false b n e f h = cc

pub name_long : (l : Language) (bytes : List ℕ) → IsMadeOf piece.Word bytes → allows l (get_or bytes 0 0) ≡ true → is_name bytes ≡ false
    → IsRefused l bytes broken.Limit
name_long l bytes (a_word f r i j) open_to n = scanned.long_name f r i open_to (too_long (is_letter f) (list_all is_word_byte r) (length (f ∷ r)) i j n)

all_digits : (bytes : List ℕ) → IsMadeOf piece.Digits bytes → list_all is_digit bytes ≡ true
all_digits bytes (digits f r i j) = ap (λ b. b && list_all is_digit r) i ∙ j

pub number_idle : (bytes : List ℕ) → IsMadeOf piece.Digits bytes → has_idle_zero bytes ≡ true → (l : Language) → IsRefused l bytes broken.Token
number_idle bytes m h l = scanned.idle_zero bytes (all_digits bytes m) h

pub number_spelled : (bytes : List ℕ) (n : ℤ) → IsMadeOf piece.Digits bytes → has_idle_zero bytes ≡ false → IsValue n bytes → (l : Language)
    → Spells l bytes (kind.Number n)
number_spelled bytes n m h v l =
    subst (λ k. Spells l bytes (kind.Number k)) (sym v.is) (scanned.a_number bytes (all_digits bytes m) h v.within)

pub number_large : (bytes : List ℕ) → IsMadeOf piece.Digits bytes → has_idle_zero bytes ≡ false → number_limit < written bytes → (l : Language)
    → IsRefused l bytes broken.Limit
number_large bytes m h large l = scanned.large_number bytes (all_digits bytes m) h large

-- once the value is too large, the whole number is
pub too_large : (value i d : ℕ) (bytes : List ℕ) → i < length bytes → d ≡ get_or bytes i 0 - 48 → written_behind value (drop i bytes) ≡ written bytes
    → number_limit < value * 10 + d → number_limit < written bytes
too_large value i d bytes within is rest large =
    let parted : drop i bytes ≡ get_or bytes i 0 ∷ drop (suc i) bytes = drop-cons bytes i 0 within in
    let grows = written_grows (value * 10 + (get_or bytes i 0 - 48)) (drop (suc i) bytes) in
    let whole : written_behind (value * 10 + (get_or bytes i 0 - 48)) (drop (suc i) bytes) ≡ written bytes = sym (ap (written_behind value) parted) ∙ rest in
    omega arith

-- a value that isn't too large is kept where it is held in 32 bits
pub value_kept : (bytes : List ℕ) (n : ℤ) → IsValue n bytes → to_z w32 (of_z w32 n) ≡ n
value_kept bytes n v =
    let le = v.within in
    let fits : SFits w32 (pos (written bytes)) = record { sfits = omega arith } in
    to_z-of_z w32 n (subst (λ z. SFits w32 z) (sym v.is) fits)
