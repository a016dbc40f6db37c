-- The words and signs of a printed program, cut into their tokens.
use Rattle.std.proofs.Common.{◌≡◌, ℕ, ◌+◌, true, List, [], ◌∷◌, ◌++◌, length, codes, refl, arith}
use Rattle.std.specs.List.{list_all}
use Rattle.sc_values.specs.Name.{is_letter}
use Rattle.sc_text.specs.declared.word.Word.{Word}
use Rattle.sc_text.specs.declared.word.Word.TheVariants as word
use Rattle.sc_text.specs.declared.sign.Sign.TheVariants as sign
use Rattle.sc_text.specs.declared.token.TokenKind.TheVariants as kind
use Rattle.sc_text.specs.Words.{word_text}
use Rattle.sc_text.specs.Pieces.{is_word_byte}
use Rattle.scl_printer_laws.proofs.Longest.{Quiet, quiet_low, Plain}
use Rattle.scl_printer_laws.proofs.Cuts.{Cuts, cuts_both, cuts_sign, cuts_word, cuts_space, spaced, signed_at, worded_at}
use Rattle.scl_printer_laws.proofs.Lines.{cuts_word_space}
use Rattle.scl_printer_laws.proofs.Operands.{opening_plain, closing_plain}

semicolon_plain : Plain 59
semicolon_plain = record { no_letter = refl; no_digit = refl; no_blank = refl }

colon_plain : Plain 58
colon_plain = record { no_letter = refl; no_digit = refl; no_blank = refl }

becomes_plain : Plain 61
becomes_plain = record { no_letter = refl; no_digit = refl; no_blank = refl }

open_plain : Plain 123
open_plain = record { no_letter = refl; no_digit = refl; no_blank = refl }

close_plain : Plain 125
close_plain = record { no_letter = refl; no_digit = refl; no_blank = refl }

low_feed : (rest : List ℕ) → Quiet (10 ∷ rest)
low_feed rest = quiet_low 10 rest (omega arith)

low_space : (rest : List ℕ) → Quiet (32 ∷ rest)
low_space rest = quiet_low 32 rest (omega arith)

-- ---- at the end of a line

pub cuts_semicolon : (rest : List ℕ) (at : ℕ) → Cuts (codes ";") (10 ∷ rest) at (signed_at sign.Semicolon at ∷ [])
cuts_semicolon rest at = cuts_sign sign.Semicolon 59 refl semicolon_plain (10 ∷ rest) (low_feed rest) at

pub cuts_colon : (rest : List ℕ) (at : ℕ) → Cuts (codes ":") (10 ∷ rest) at (signed_at sign.Colon at ∷ [])
cuts_colon rest at = cuts_sign sign.Colon 58 refl colon_plain (10 ∷ rest) (low_feed rest) at

pub cuts_close : (rest : List ℕ) (at : ℕ) → Cuts (codes "}") (10 ∷ rest) at (signed_at sign.CloseBrace at ∷ [])
cuts_close rest at = cuts_sign sign.CloseBrace 125 refl close_plain (10 ∷ rest) (low_feed rest) at

pub cuts_open : (rest : List ℕ) (at : ℕ) → Cuts (codes " {") (10 ∷ rest) at (signed_at sign.OpenBrace (at + 1) ∷ [])
cuts_open rest at =
    cuts_both (32 ∷ []) (123 ∷ []) (10 ∷ rest) at [] (signed_at sign.OpenBrace (at + 1) ∷ []) (cuts_space (123 ∷ 10 ∷ rest) at)
    (cuts_sign sign.OpenBrace 123 refl open_plain (10 ∷ rest) (low_feed rest) (at + 1))

-- ---- in a line

pub cuts_becomes : (rest : List ℕ) (at : ℕ) → Cuts (codes " = ") rest at (signed_at sign.Becomes (at + 1) ∷ [])
cuts_becomes rest at =
    spaced (codes "=") rest at (kind.Sign sign.Becomes) (cuts_sign sign.Becomes 61 refl becomes_plain (32 ∷ rest) (low_space rest) (at + 1))

close_space : (rest : List ℕ) (at : ℕ) → Cuts (codes "} ") rest at (signed_at sign.CloseBrace at ∷ [])
close_space rest at =
    cuts_both (125 ∷ []) (32 ∷ []) rest at (signed_at sign.CloseBrace at ∷ []) []
    (cuts_sign sign.CloseBrace 125 refl close_plain (32 ∷ rest) (low_space rest) at)
    (cuts_space rest (at + 1))

-- what opens a test, and what closes it
pub cuts_if : (rest : List ℕ) (at : ℕ) → Quiet rest → Cuts (codes "if (") rest at (worded_at word.If at ∷ signed_at sign.OpenParenthesis (at + 3) ∷ [])
cuts_if rest at quiet =
    cuts_both (codes "if ") (40 ∷ []) rest at (worded_at word.If at ∷ []) (signed_at sign.OpenParenthesis (at + 3) ∷ [])
    (cuts_word_space word.If 105 (codes "f") refl refl refl (40 ∷ rest) at)
    (cuts_sign sign.OpenParenthesis 40 refl opening_plain rest quiet (at + 3))

pub cuts_then : (rest : List ℕ) (at : ℕ) → Cuts (codes ") {") (10 ∷ rest) at (signed_at sign.CloseParenthesis at ∷ signed_at sign.OpenBrace (at + 1 + 1) ∷ [])
cuts_then rest at =
    cuts_both (41 ∷ []) (codes " {") (10 ∷ rest) at (signed_at sign.CloseParenthesis at ∷ []) (signed_at sign.OpenBrace (at + 1 + 1) ∷ [])
    (cuts_sign sign.CloseParenthesis 41 refl closing_plain (codes " {" ++ 10 ∷ rest) (low_space (123 ∷ 10 ∷ rest)) at)
    (cuts_open rest (at + 1))

-- a word before a brace
module _ (w : Word) (first : ℕ) (more : List ℕ) (is : word_text w ≡ first ∷ more) (letter : is_letter first ≡ true)
    (all : list_all is_word_byte more ≡ true) where
  pub cuts_opening : (rest : List ℕ) (at : ℕ) → Cuts (word_text w ++ codes " {") (10 ∷ rest) at
      (worded_at w at ∷ signed_at sign.OpenBrace (at + length (word_text w) + 1) ∷ [])
  cuts_opening rest at =
      cuts_both (word_text w) (codes " {") (10 ∷ rest) at (worded_at w at ∷ []) (signed_at sign.OpenBrace (at + length (word_text w) + 1) ∷ [])
      (cuts_word w first more is letter all (codes " {" ++ 10 ∷ rest) refl at)
      (cuts_open rest (at + length (word_text w)))

  -- between two lists of statements
  pub cuts_between : (rest : List ℕ) (at : ℕ) → Cuts (codes "} " ++ (word_text w ++ codes " {")) (10 ∷ rest) at
      (signed_at sign.CloseBrace at ∷ worded_at w (at + 2) ∷ signed_at sign.OpenBrace (at + 2 + length (word_text w) + 1) ∷ [])
  cuts_between rest at =
      cuts_both (codes "} ") (word_text w ++ codes " {") (10 ∷ rest) at (signed_at sign.CloseBrace at ∷ [])
      (worded_at w (at + 2) ∷ signed_at sign.OpenBrace (at + 2 + length (word_text w) + 1) ∷ [])
      (close_space ((word_text w ++ codes " {") ++ 10 ∷ rest) at)
      (cuts_opening rest (at + 2))

  pub cuts_ending : (rest : List ℕ) (at : ℕ) → Cuts (word_text w ++ codes ";") (10 ∷ rest) at
      (worded_at w at ∷ signed_at sign.Semicolon (at + length (word_text w)) ∷ [])
  cuts_ending rest at =
      cuts_both (word_text w) (codes ";") (10 ∷ rest) at (worded_at w at ∷ []) (signed_at sign.Semicolon (at + length (word_text w)) ∷ [])
      (cuts_word w first more is letter all (codes ";" ++ 10 ∷ rest) refl at)
      (cuts_semicolon rest (at + length (word_text w)))

pub cuts_join : (rest : List ℕ) (at : ℕ) → Cuts (codes "} join;") (10 ∷ rest) at
    (signed_at sign.CloseBrace at ∷ worded_at word.Join (at + 2) ∷ signed_at sign.Semicolon (at + 2 + 4) ∷ [])
cuts_join rest at =
    cuts_both (codes "} ") (codes "join;") (10 ∷ rest) at (signed_at sign.CloseBrace at ∷ [])
    (worded_at word.Join (at + 2) ∷ signed_at sign.Semicolon (at + 2 + 4) ∷ [])
    (close_space (codes "join;" ++ 10 ∷ rest) at)
    (cuts_ending word.Join 106 (codes "oin") refl refl refl rest (at + 2))
