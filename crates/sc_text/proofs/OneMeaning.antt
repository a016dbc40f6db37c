-- What a piece means is one: a token, nothing where it is passed, or nothing that is allowed. It is told by a function of
-- its bytes, with which each of the three relations agrees.
use Rattle.std.proofs.Common.{◌≡◌, ◌≢◌, ℕ, ◌<◌, ◌≤◌, Bool, true, false, not, ◌&&◌, ◌||◌, ◌==◌, List, [], ◌∷◌, length, nat_eq, nat_le, nat_lt, refl}
use Rattle.std.proofs.Common.{sym, ◌∙◌, ap, subst, arith, pos}
use Rattle.std.specs.Prelude.{Option, Some, None}
use Rattle.std.specs.List.{list_all}
use Rattle.std.specs.Cmp.{unsigned_Decides}
use Rattle.std.proofs.lemmas.Bool.Decides.{nat_tests}
use Rattle.sc_values.specs.Name.{is_name, is_letter, is_digit}
use Rattle.sc_values.specs.Limits.{name_limit}
use Rattle.sc_text.specs.declared.word.Word.{Word}
use Rattle.sc_text.specs.declared.word.Word.TheVariants as word
use Rattle.sc_text.specs.declared.sign.Sign.{Sign}
use Rattle.sc_text.specs.declared.sign.Sign.TheVariants as sign
use Rattle.sc_text.specs.declared.token.TokenKind.{TokenKind}
use Rattle.sc_text.specs.declared.token.TokenKind.TheVariants as kind
use Rattle.sc_text.specs.declared.language.Language.{Language}
use Rattle.sc_text.specs.declared.language.Language.TheVariants as language
use Rattle.sc_text.specs.declared.read_fault.FaultKind.{FaultKind}
use Rattle.sc_text.specs.declared.read_fault.FaultKind.TheVariants as broken
use Rattle.sc_text.specs.Words.{word_text, sign_text}
use Rattle.sc_text.specs.Pieces.{IsPiece, is_blank, slash}
use Rattle.sc_text.specs.Tokens.{allows, has_idle_zero, number_limit, written, IsReserved, Spells, a_sign, a_word, a_name, a_number, IsPassed}
use Rattle.sc_text.specs.Tokens.{a_blank, a_comment, IsRefused, under_bar, long_name, idle_zero, large_number}
use Rattle.sc_text.proofs.Faces.{no_empty, no_slashes, signed}

-- what a piece means
pub data Meaning : Type 0 where
  -- a token, or nothing where it is passed
  goes_on : Option TokenKind → Meaning
  is_refused : FaultKind → Meaning

-- ---- the first of some things that is spelled so

abbrev pub same_bytes : List ℕ → List ℕ → Bool
same_bytes [] [] = true
same_bytes [] (y ∷ ys) = false
same_bytes (x ∷ xs) [] = false
same_bytes (x ∷ xs) (y ∷ ys) = nat_eq x y && same_bytes xs ys

both_true : (a b : Bool) → (a && b) ≡ true → (a ≡ true) × (b ≡ true)
both_true true b e = (refl, e)
both_true false b e = absurd (cc)

are_same : (xs ys : List ℕ) → same_bytes xs ys ≡ true → xs ≡ ys
are_same [] [] e = refl
are_same [] (y ∷ ys) e = absurd (cc)
are_same (x ∷ xs) [] e = absurd (cc)
are_same (x ∷ xs) (y ∷ ys) e =
    let b = both_true (nat_eq x y) (same_bytes xs ys) e in
    let first : x ≡ y = (unsigned_Decides x y).0 b.0 in
    let rest : xs ≡ ys = are_same xs ys b.1 in
    cc

abbrev pub pick : {X : Type 0} → Bool → X → Option X → Option X
pick true x later = Some x
pick false x later = later

abbrev pub spelled_so : {X : Type 0} → (X → List ℕ) → List X → List ℕ → Option X
spelled_so text [] bytes = None
spelled_so text (x ∷ xs) bytes = pick (same_bytes (text x) bytes) x (spelled_so text xs bytes)

picked : {X : Type 0} (text : X → List ℕ) (bytes : List ℕ) (x y : X) (later : Option X) → (later ≡ Some x → text x ≡ bytes) → (b : Bool)
    → same_bytes (text y) bytes ≡ b → pick b y later ≡ Some x → text x ≡ bytes
picked text bytes x y later h true is e =
    let same : x ≡ y = cc in
    ap text same ∙ are_same (text y) bytes is
picked text bytes x y later h false is e = h e

is_spelled_so : {X : Type 0} (text : X → List ℕ) (xs : List X) (bytes : List ℕ) (x : X) → spelled_so text xs bytes ≡ Some x → text x ≡ bytes
is_spelled_so text [] bytes x e = absurd (cc)
is_spelled_so text (y ∷ ys) bytes x e =
    picked text bytes x y (spelled_so text ys bytes) (is_spelled_so text ys bytes x) (same_bytes (text y) bytes) refl e

none_spelled : {X : Type 0} (text : X → List ℕ) (xs : List X) (bytes : List ℕ) → ((x : X) → text x ≢ bytes) → spelled_so text xs bytes ≡ None
none_spelled {X = X} text xs bytes h = go (spelled_so text xs bytes) refl
  where
    go : (o : Option X) → spelled_so text xs bytes ≡ o → spelled_so text xs bytes ≡ None
    go None e = e
    go (Some x) e = absurd (h x (is_spelled_so text xs bytes x e))

abbrev pub signs : List Sign
signs =
    sign.OpenBrace ∷ sign.CloseBrace ∷ sign.OpenParenthesis ∷ sign.CloseParenthesis ∷ sign.Semicolon ∷ sign.Colon ∷ sign.Comma ∷ sign.Becomes ∷
    sign.Equal ∷ sign.NotEqual ∷ sign.Less ∷ sign.LessOrEqual ∷ sign.Greater ∷ sign.GreaterOrEqual ∷ sign.Plus ∷ sign.Minus ∷ sign.Star ∷
    sign.Slash ∷ sign.Percent ∷ sign.Arrow ∷ []

abbrev pub words : List Word
words =
    word.Chart ∷ word.Scl ∷ word.Input ∷ word.Output ∷ word.Local ∷ word.Bool ∷ word.Int ∷ word.Region ∷ word.Initial ∷ word.Final ∷ word.State ∷
    word.Go ∷ word.Strong ∷ word.Weak ∷ word.Join ∷ word.Immediate ∷ word.If ∷ word.Else ∷ word.Do ∷ word.Goto ∷ word.Fork ∷ word.Par ∷ word.Pause ∷
    word.True ∷ word.False ∷ word.Not ∷ word.And ∷ word.Or ∷ word.Min ∷ word.Max ∷ []

-- ---- what the bytes of a piece mean

abbrev pub by_sign : Option Sign → Meaning
by_sign None = goes_on None
by_sign (Some s) = goes_on (Some (kind.Sign s))

abbrev pub by_word : List ℕ → Option Word → Meaning
by_word bytes None = goes_on (Some (kind.Name bytes))
by_word bytes (Some w) = goes_on (Some (kind.Word w))

abbrev pub by_letters : (is_allowed is_long : Bool) → List ℕ → Option Word → Meaning
by_letters false long bytes w = is_refused broken.Token
by_letters true true bytes w = is_refused broken.Limit
by_letters true false bytes w = by_word bytes w

abbrev pub by_digits : (is_idle is_large : Bool) → List ℕ → Meaning
by_digits true large bytes = is_refused broken.Token
by_digits false true bytes = is_refused broken.Limit
by_digits false false bytes = goes_on (Some (kind.Number (pos (written bytes))))

abbrev pub by_first : (is_letter is_digit : Bool) → (letters digits others : Meaning) → Meaning
by_first true digit letters digits others = letters
by_first false true letters digits others = digits
by_first false false letters digits others = others

abbrev pub letters_mean : Language → ℕ → List ℕ → Meaning
letters_mean l first bytes = by_letters (allows l first) (nat_lt name_limit (length bytes)) bytes (spelled_so word_text words bytes)

abbrev pub digits_mean : List ℕ → Meaning
digits_mean bytes = by_digits (has_idle_zero bytes) (nat_lt number_limit (written bytes)) bytes

abbrev pub sign_means : List ℕ → Meaning
sign_means bytes = by_sign (spelled_so sign_text signs bytes)

abbrev pub meaning : Language → List ℕ → Meaning
meaning l [] = goes_on None
meaning l (first ∷ rest) =
    by_first (is_letter first) (is_digit first) (letters_mean l first (first ∷ rest)) (digits_mean (first ∷ rest)) (sign_means (first ∷ rest))

module _ (l : Language) (first : ℕ) (rest : List ℕ) where
  abbrev bytes : List ℕ
  bytes = first ∷ rest

  of_letters : is_letter first ≡ true → meaning l bytes ≡ letters_mean l first bytes
  of_letters i = ap (λ b. by_first b (is_digit first) (letters_mean l first bytes) (digits_mean bytes) (sign_means bytes)) i

  of_no_letter : is_letter first ≡ false
      → meaning l bytes ≡ by_first false (is_digit first) (letters_mean l first bytes) (digits_mean bytes) (sign_means bytes)
  of_no_letter i = ap (λ b. by_first b (is_digit first) (letters_mean l first bytes) (digits_mean bytes) (sign_means bytes)) i

  of_digits : is_letter first ≡ false → is_digit first ≡ true → meaning l bytes ≡ digits_mean bytes
  of_digits i j = of_no_letter i ∙ ap (λ b. by_first false b (letters_mean l first bytes) (digits_mean bytes) (sign_means bytes)) j

  of_others : is_letter first ≡ false → is_digit first ≡ false → meaning l bytes ≡ sign_means bytes
  of_others i j = of_no_letter i ∙ ap (λ b. by_first false b (letters_mean l first bytes) (digits_mean bytes) (sign_means bytes)) j

  of_allowed : (long : Bool) → allows l first ≡ true → nat_lt name_limit (length bytes) ≡ long
      → letters_mean l first bytes ≡ by_letters true long bytes (spelled_so word_text words bytes)
  of_allowed long a s =
      ap (λ b. by_letters b (nat_lt name_limit (length bytes)) bytes (spelled_so word_text words bytes)) a
      ∙ ap (λ b. by_letters true b bytes (spelled_so word_text words bytes)) s

  of_number : (idle large : Bool) → has_idle_zero bytes ≡ idle → nat_lt number_limit (written bytes) ≡ large → digits_mean bytes ≡ by_digits idle large bytes
  of_number idle large i s = ap (λ b. by_digits b (nat_lt number_limit (written bytes)) bytes) i ∙ ap (λ b. by_digits idle b bytes) s

-- ---- words and signs

record Lettered (w : Word) : Type 0 where
  first : ℕ
  rest : List ℕ
  parts : word_text w ≡ first ∷ rest
  letter : is_letter first ≡ true
  no_bar : (first == 95) ≡ false
  short : nat_lt name_limit (length (first ∷ rest)) ≡ false
  found : spelled_so word_text words (first ∷ rest) ≡ Some w

lettered : (w : Word) → Lettered w
lettered word.Chart = record { first = 99; rest = 104 ∷ 97 ∷ 114 ∷ 116 ∷ []; parts = refl; letter = refl; no_bar = refl; short = refl; found = refl }
lettered word.Scl = record { first = 115; rest = 99 ∷ 108 ∷ []; parts = refl; letter = refl; no_bar = refl; short = refl; found = refl }
lettered word.Input = record { first = 105; rest = 110 ∷ 112 ∷ 117 ∷ 116 ∷ []; parts = refl; letter = refl; no_bar = refl; short = refl; found = refl }
lettered word.Output = record { first = 111; rest = 117 ∷ 116 ∷ 112 ∷ 117 ∷ 116 ∷ []; parts = refl; letter = refl; no_bar = refl; short = refl; found = refl }
lettered word.Local = record { first = 108; rest = 111 ∷ 99 ∷ 97 ∷ 108 ∷ []; parts = refl; letter = refl; no_bar = refl; short = refl; found = refl }
lettered word.Bool = record { first = 98; rest = 111 ∷ 111 ∷ 108 ∷ []; parts = refl; letter = refl; no_bar = refl; short = refl; found = refl }
lettered word.Int = record { first = 105; rest = 110 ∷ 116 ∷ []; parts = refl; letter = refl; no_bar = refl; short = refl; found = refl }
lettered word.Region = record { first = 114; rest = 101 ∷ 103 ∷ 105 ∷ 111 ∷ 110 ∷ []; parts = refl; letter = refl; no_bar = refl; short = refl; found = refl }
lettered word.Initial = record {
  first = 105;
  rest = 110 ∷ 105 ∷ 116 ∷ 105 ∷ 97 ∷ 108 ∷ [];
  parts = refl;
  letter = refl;
  no_bar = refl;
  short = refl;
  found =
      refl;
}
lettered word.Final = record { first = 102; rest = 105 ∷ 110 ∷ 97 ∷ 108 ∷ []; parts = refl; letter = refl; no_bar = refl; short = refl; found = refl }
lettered word.State = record { first = 115; rest = 116 ∷ 97 ∷ 116 ∷ 101 ∷ []; parts = refl; letter = refl; no_bar = refl; short = refl; found = refl }
lettered word.Go = record { first = 103; rest = 111 ∷ []; parts = refl; letter = refl; no_bar = refl; short = refl; found = refl }
lettered word.Strong = record { first = 115; rest = 116 ∷ 114 ∷ 111 ∷ 110 ∷ 103 ∷ []; parts = refl; letter = refl; no_bar = refl; short = refl; found = refl }
lettered word.Weak = record { first = 119; rest = 101 ∷ 97 ∷ 107 ∷ []; parts = refl; letter = refl; no_bar = refl; short = refl; found = refl }
lettered word.Join = record { first = 106; rest = 111 ∷ 105 ∷ 110 ∷ []; parts = refl; letter = refl; no_bar = refl; short = refl; found = refl }
lettered word.Immediate = record {
  first = 105;
  rest = 109 ∷ 109 ∷ 101 ∷ 100 ∷ 105 ∷ 97 ∷ 116 ∷ 101 ∷ [];
  parts = refl;
  letter = refl;
  no_bar = refl;
  short =
      refl;
  found = refl;
}
lettered word.If = record { first = 105; rest = 102 ∷ []; parts = refl; letter = refl; no_bar = refl; short = refl; found = refl }
lettered word.Else = record { first = 101; rest = 108 ∷ 115 ∷ 101 ∷ []; parts = refl; letter = refl; no_bar = refl; short = refl; found = refl }
lettered word.Do = record { first = 100; rest = 111 ∷ []; parts = refl; letter = refl; no_bar = refl; short = refl; found = refl }
lettered word.Goto = record { first = 103; rest = 111 ∷ 116 ∷ 111 ∷ []; parts = refl; letter = refl; no_bar = refl; short = refl; found = refl }
lettered word.Fork = record { first = 102; rest = 111 ∷ 114 ∷ 107 ∷ []; parts = refl; letter = refl; no_bar = refl; short = refl; found = refl }
lettered word.Par = record { first = 112; rest = 97 ∷ 114 ∷ []; parts = refl; letter = refl; no_bar = refl; short = refl; found = refl }
lettered word.Pause = record { first = 112; rest = 97 ∷ 117 ∷ 115 ∷ 101 ∷ []; parts = refl; letter = refl; no_bar = refl; short = refl; found = refl }
lettered word.True = record { first = 116; rest = 114 ∷ 117 ∷ 101 ∷ []; parts = refl; letter = refl; no_bar = refl; short = refl; found = refl }
lettered word.False = record { first = 102; rest = 97 ∷ 108 ∷ 115 ∷ 101 ∷ []; parts = refl; letter = refl; no_bar = refl; short = refl; found = refl }
lettered word.Not = record { first = 110; rest = 111 ∷ 116 ∷ []; parts = refl; letter = refl; no_bar = refl; short = refl; found = refl }
lettered word.And = record { first = 97; rest = 110 ∷ 100 ∷ []; parts = refl; letter = refl; no_bar = refl; short = refl; found = refl }
lettered word.Or = record { first = 111; rest = 114 ∷ []; parts = refl; letter = refl; no_bar = refl; short = refl; found = refl }
lettered word.Min = record { first = 109; rest = 105 ∷ 110 ∷ []; parts = refl; letter = refl; no_bar = refl; short = refl; found = refl }
lettered word.Max = record { first = 109; rest = 97 ∷ 120 ∷ []; parts = refl; letter = refl; no_bar = refl; short = refl; found = refl }

found_sign : (s : Sign) → spelled_so sign_text signs (sign_text s) ≡ Some s
found_sign sign.OpenBrace = refl
found_sign sign.CloseBrace = refl
found_sign sign.OpenParenthesis = refl
found_sign sign.CloseParenthesis = refl
found_sign sign.Semicolon = refl
found_sign sign.Colon = refl
found_sign sign.Comma = refl
found_sign sign.Becomes = refl
found_sign sign.Equal = refl
found_sign sign.NotEqual = refl
found_sign sign.Less = refl
found_sign sign.LessOrEqual = refl
found_sign sign.Greater = refl
found_sign sign.GreaterOrEqual = refl
found_sign sign.Plus = refl
found_sign sign.Minus = refl
found_sign sign.Star = refl
found_sign sign.Slash = refl
found_sign sign.Percent = refl
found_sign sign.Arrow = refl

-- ---- each relation agrees

no_bar_allows : (l : Language) (first : ℕ) → (first == 95) ≡ false → allows l first ≡ true
no_bar_allows language.Scl first e = refl
no_bar_allows language.Chart first e = ap not e

digit_no_letter : (b : ℕ) → is_digit b ≡ true → is_letter b ≡ false
digit_no_letter b e = grind (arith, nat_tests)

blank_no_letter : (b : ℕ) → is_blank b ≡ true → is_letter b ≡ false
blank_no_letter b e = grind (arith, nat_tests)

blank_no_digit : (b : ℕ) → is_blank b ≡ true → is_digit b ≡ false
blank_no_digit b e = grind (arith, nat_tests)

not_above : (limit n : ℕ) → n ≤ limit → nat_lt limit n ≡ false
not_above limit n h = grind (arith, nat_tests)

above : (limit n : ℕ) → limit < n → nat_lt limit n ≡ true
above limit n h = grind (arith, nat_tests)

within : (limit n : ℕ) → nat_le n limit ≡ true → n ≤ limit
within limit n h = grind (arith, nat_tests)

sign_spelled : (l : Language) (s : Sign) → meaning l (sign_text s) ≡ goes_on (Some (kind.Sign s))
sign_spelled l s =
    let g = signed s in
    let found : spelled_so sign_text signs (g.first ∷ g.rest) ≡ Some s = ap (spelled_so sign_text signs) (sym g.parts) ∙ found_sign s in
    ap (meaning l) g.parts ∙ of_others l g.first g.rest g.no_letter g.no_digit ∙ ap by_sign found

word_spelled : (l : Language) (w : Word) → meaning l (word_text w) ≡ goes_on (Some (kind.Word w))
word_spelled l w =
    let g = lettered w in
    ap (meaning l) g.parts ∙ of_letters l g.first g.rest g.letter
    ∙ of_allowed l g.first g.rest false (no_bar_allows l g.first g.no_bar) g.short ∙ ap (by_word (g.first ∷ g.rest)) g.found

name_spelled : (l : Language) (first : ℕ) (rest : List ℕ) → is_name (first ∷ rest) ≡ true → allows l first ≡ true → ¬ IsReserved (first ∷ rest)
    → meaning l (first ∷ rest) ≡ goes_on (Some (kind.Name (first ∷ rest)))
name_spelled l first rest i a free =
    let b = both_true (is_letter first && list_all (λ byte. is_letter byte || is_digit byte) rest) (nat_le (length (first ∷ rest)) name_limit) i in
    let c = both_true (is_letter first) (list_all (λ byte. is_letter byte || is_digit byte) rest) b.0 in
    let short = not_above name_limit (length (first ∷ rest)) (within name_limit (length (first ∷ rest)) b.1) in
    let none = none_spelled word_text words (first ∷ rest) (λ w e. free (w, sym e)) in
    of_letters l first rest c.0 ∙ of_allowed l first rest false a short ∙ ap (by_word (first ∷ rest)) none

first_digit : (first : ℕ) (rest : List ℕ) → list_all is_digit (first ∷ rest) ≡ true → is_digit first ≡ true
first_digit first rest e = (both_true (is_digit first) (list_all is_digit rest) e).0

number_spelled : (l : Language) (digits : List ℕ) → IsPiece digits → list_all is_digit digits ≡ true → (idle large : Bool) → has_idle_zero digits ≡ idle
    → nat_lt number_limit (written digits) ≡ large → meaning l digits ≡ by_digits idle large digits
number_spelled l [] p a idle large i s = absurd (no_empty [] p refl)
number_spelled l (first ∷ rest) p a idle large i s =
    let d = first_digit first rest a in
    of_digits l first rest (digit_no_letter first d) d ∙ of_number l first rest idle large i s

pub spelled_means : (l : Language) (piece : List ℕ) (k : TokenKind) → IsPiece piece → Spells l piece k → meaning l piece ≡ goes_on (Some k)
spelled_means l piece k p (a_sign s) = sign_spelled l s
spelled_means l piece k p (a_word w) = word_spelled l w
spelled_means l piece k p (a_name first rest i a free) = name_spelled l first rest i a free
spelled_means l piece k p (a_number digits a z le) =
    number_spelled l digits p a false false z (not_above number_limit (written digits) le)

blank_is_no_sign : (byte : ℕ) → is_blank byte ≡ true → (s : Sign) → sign_text s ≢ byte ∷ []
blank_is_no_sign byte is s e =
    let g = signed s in
    let p = g.parts in
    let same : byte ≡ g.first = cc in
    let blank : is_blank g.first ≡ true = subst (λ b. is_blank b ≡ true) same is in
    let other = g.no_blank in
    cc

pub passed_means : (l : Language) (piece : List ℕ) → IsPassed piece → meaning l piece ≡ goes_on None
passed_means l piece (a_blank byte is) =
    of_others l byte [] (blank_no_letter byte is) (blank_no_digit byte is)
    ∙ ap by_sign (none_spelled sign_text signs (byte ∷ []) (blank_is_no_sign byte is))
passed_means l piece (a_comment rest is) =
    of_others l slash (slash ∷ rest) refl refl
    ∙ ap by_sign (none_spelled sign_text signs (slash ∷ slash ∷ rest) (λ s e. no_slashes s rest (sym e)))

pub refused_means : (l : Language) (piece : List ℕ) (b : FaultKind) → IsPiece piece → IsRefused l piece b → meaning l piece ≡ is_refused b
refused_means l piece b p (under_bar first rest i a) =
    of_letters l first rest i
    ∙ ap (λ x. by_letters x (nat_lt name_limit (length (first ∷ rest))) (first ∷ rest) (spelled_so word_text words (first ∷ rest))) a
refused_means l piece b p (long_name first rest i a long) =
    of_letters l first rest i ∙ of_allowed l first rest true a (above name_limit (length (first ∷ rest)) long)
refused_means l piece b p (idle_zero digits a z) =
    number_spelled l digits p a true (nat_lt number_limit (written digits)) z refl
refused_means l piece b p (large_number digits a z large) =
    number_spelled l digits p a false true z (above number_limit (written digits) large)
