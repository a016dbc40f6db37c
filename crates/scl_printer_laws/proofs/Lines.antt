-- Where a line of a printed program stands, whatever follows, it is cut into the tokens of its words, names and signs: between
-- any two of them stands a space, a line feed or a sign of one byte.
use Rattle.std.proofs.Common.{◌≡◌, ℕ, zero, suc, ◌+◌, true, ◌&&◌, List, [], ◌∷◌, ◌++◌, length, nat_le, refl, subst}
use Rattle.std.proofs.lemmas.List.{append-nil}
use Rattle.std.specs.List.{list_all}
use Rattle.std.proofs.lemmas.Bool.{and_parts}
use Rattle.sc_values.specs.Name.{is_letter, is_name}
use Rattle.sc_values.specs.Limits.{name_limit}
use Rattle.sc_text.specs.declared.word.Word.{Word}
use Rattle.sc_text.specs.declared.token.Token.{Token}
use Rattle.sc_text.specs.declared.token.TokenKind.TheVariants as kind
use Rattle.sc_text.specs.Words.{word_text}
use Rattle.sc_text.specs.Pieces.{is_blank, is_word_byte, blank, IsLongest}
use Rattle.sc_text.specs.Tokens.{IsReserved, passes, a_blank, a_name}
use Rattle.sc_text.proofs.Faces.{face, blank_only}
use Rattle.sc_text.proofs.Rows.{Stops}
use Rattle.scl_printer.specs.Layout.{indentation, line}
use Rattle.scl_printer_laws.proofs.Longest.{word_longest}
use Rattle.scl_printer_laws.proofs.Cuts.{Cuts, cuts_both, cuts_nothing, cuts_one, cuts_word, cuts_space, worded_at}

-- a text can write this name
abbrev pub CanName : List ℕ → Type 0
CanName name = (is_name name ≡ true) × (¬ IsReserved name)

abbrev pub named_at : List ℕ → ℕ → Token
named_at name at = record { kind = kind.Name name; at = at }

-- ---- blanks

blank_longest : (b : ℕ) (rest : List ℕ) → is_blank b ≡ true → IsLongest (b ∷ []) rest
blank_longest b rest is = record {
  is_piece = blank b is;
  longest = λ more behind f some p. some (blank_only b more is (face (b ∷ more) p b more refl));
}

pub cuts_feed : (rest : List ℕ) (at : ℕ) → Cuts (10 ∷ []) rest at []
cuts_feed rest at later a = passes at (10 ∷ []) rest later (blank_longest 10 rest refl) (a_blank 10 refl) a

two_spaces : (rest : List ℕ) (at : ℕ) → Cuts (32 ∷ 32 ∷ []) rest at []
two_spaces rest at = cuts_both (32 ∷ []) (32 ∷ []) rest at [] [] (cuts_space (32 ∷ rest) at) (cuts_space rest (at + 1))

cuts_indentation : (level : ℕ) (rest : List ℕ) (at : ℕ) → Cuts (indentation level) rest at []
cuts_indentation zero rest at = cuts_nothing rest at
cuts_indentation (suc level) rest at =
    cuts_both (32 ∷ 32 ∷ []) (indentation level) rest at [] [] (two_spaces (indentation level ++ rest) at) (cuts_indentation level rest (at + 2))

-- where the text of a line begins
abbrev pub begins_at : (level at : ℕ) → ℕ
begins_at level at = at + length (indentation level)

pub cuts_line : (level : ℕ) (text rest : List ℕ) (at : ℕ) (ks : List Token) → Cuts text (10 ∷ rest) (begins_at level at) ks → Cuts (line text level) rest at ks
cuts_line level text rest at ks cut =
    let start : ℕ = begins_at level at in
    let whole : Cuts (text ++ 10 ∷ []) rest start (ks ++ []) = cuts_both text (10 ∷ []) rest start ks [] cut (cuts_feed rest (start + length text)) in
    cuts_both (indentation level) (text ++ 10 ∷ []) rest at [] ks (cuts_indentation level ((text ++ 10 ∷ []) ++ rest) at)
    (subst (Cuts (text ++ 10 ∷ []) rest start) (append-nil ks) whole)

-- ---- words and names

-- a word and the space behind it
pub cuts_word_space : (w : Word) (first : ℕ) (more : List ℕ) → word_text w ≡ first ∷ more → is_letter first ≡ true → list_all is_word_byte more ≡ true
    → (rest : List ℕ) (at : ℕ) → Cuts (word_text w ++ 32 ∷ []) rest at (worded_at w at ∷ [])
cuts_word_space w first more is l all rest at =
    cuts_both (word_text w) (32 ∷ []) rest at (worded_at w at ∷ []) [] (cuts_word w first more is l all (32 ∷ rest) refl at)
    (cuts_space rest (at + length (word_text w)))

pub cuts_name : (name : List ℕ) → CanName name → (rest : List ℕ) → Stops is_word_byte rest → (at : ℕ) → Cuts name rest at (named_at name at ∷ [])
cuts_name [] can rest stops at = let is = can.0 in absurd (cc)
cuts_name (c ∷ more) can rest stops at =
    let letters = and_parts (is_letter c && list_all is_word_byte more) (nat_le (length (c ∷ more)) name_limit) can.0 in
    let parts = and_parts (is_letter c) (list_all is_word_byte more) letters.0 in
    cuts_one (c ∷ more) rest at (kind.Name (c ∷ more)) (word_longest c more rest parts.0 parts.1 stops) (a_name c more can.0 refl can.1)
