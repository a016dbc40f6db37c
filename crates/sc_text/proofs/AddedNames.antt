-- Names that are added to those of a text: they begin with `_`, which begins no reserved word, and end with the digits
-- of a number.
use Rattle.std.proofs.Common.{◌≡◌, ℕ, ◌<◌, ◌≤◌, ◌^◌, Bool, true, false, ◌||◌, ◌==◌, List, [], ◌∷◌, length, refl, ap, ◌∙◌, arith}
use Rattle.std.specs.Prelude.{decimal}
use Rattle.std.specs.List.{list_all}
use Rattle.std.specs.Str.Parse.{AllDigits}
use Rattle.std.specs.Int.{IsInRange}
use Rattle.std.specs.Char.{digit_value}
use Rattle.std.proofs.lemmas.Bool.Decides.{nat_tests}
use Rattle.std.proofs.lemmas.Str.Parse.{digit_from_value}
use Rattle.std.proofs.lemmas.Fmt.{decimal_is_IsNumeral, length-decimal-le}
use Rattle.sc_values.specs.Name.{is_letter, is_digit}
use Rattle.sc_text.specs.declared.word.Word.{Word}
use Rattle.sc_text.specs.declared.word.Word.TheVariants as word
use Rattle.sc_text.specs.declared.language.Language.TheVariants as language
use Rattle.sc_text.specs.Words.{word_text}
use Rattle.sc_text.specs.Parts.{IsNameIn}

-- ---- the digits of a number

digit_byte : (byte : ℕ) → digit_value byte < 10 → (is_letter byte || is_digit byte) ≡ true
digit_byte byte small = let range : IsInRange 48 57 byte = digit_from_value byte small in let low : 48 ≤ byte = range.0 in let high : byte ≤ 57 = range.1 in
    grind (arith, nat_tests)

digit_bytes : (bytes : List ℕ) → AllDigits 10 bytes → list_all (λ byte. is_letter byte || is_digit byte) bytes ≡ true
digit_bytes [] h = refl
digit_bytes (byte ∷ bytes) h = rw (digit_byte byte h.0) (digit_bytes bytes h.1)

-- they may stand behind the first letter of a name
pub digits_in_name : (n : ℕ) → n < 2 ^ 64 → list_all (λ byte. is_letter byte || is_digit byte) (decimal n) ≡ true
digits_in_name n small = digit_bytes (decimal n) (decimal_is_IsNumeral n small).0.1

pub digits_few : (n : ℕ) → n < 2 ^ 64 → length (decimal n) ≤ 20
digits_few n small = length-decimal-le 20 n (omega arith) (omega (arith, small)) small

-- ---- names that begin with `_`

abbrev begins_with_bar : List ℕ → Bool
begins_with_bar [] = false
begins_with_bar (byte ∷ bytes) = byte == 95

no_bar : (w : Word) → begins_with_bar (word_text w) ≡ false
no_bar word.Chart = refl
no_bar word.Scl = refl
no_bar word.Input = refl
no_bar word.Output = refl
no_bar word.Local = refl
no_bar word.Bool = refl
no_bar word.Int = refl
no_bar word.Region = refl
no_bar word.Initial = refl
no_bar word.Final = refl
no_bar word.State = refl
no_bar word.Go = refl
no_bar word.Strong = refl
no_bar word.Weak = refl
no_bar word.Join = refl
no_bar word.Immediate = refl
no_bar word.If = refl
no_bar word.Else = refl
no_bar word.Do = refl
no_bar word.Goto = refl
no_bar word.Fork = refl
no_bar word.Par = refl
no_bar word.Pause = refl
no_bar word.True = refl
no_bar word.False = refl
no_bar word.Not = refl
no_bar word.And = refl
no_bar word.Or = refl
no_bar word.Min = refl
no_bar word.Max = refl

no_word : (rest : List ℕ) (w : Word) → 95 ∷ rest ≡ word_text w → ⊥
no_word rest w h = let bar : true ≡ false = ap begins_with_bar h ∙ no_bar w in absurd cc

pub added_is_named : (rest : List ℕ) → IsNameIn language.Scl (95 ∷ rest)
added_is_named rest = record { free = λ w. no_word rest w.0 w.1; begins = λ first at. refl }
