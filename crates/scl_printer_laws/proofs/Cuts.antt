-- Where a piece of a printed text stands, whatever follows, it is cut into its tokens.
use Rattle.std.proofs.Common.{◌≡◌, ◌≢◌, ℕ, ◌+◌, true, List, [], ◌∷◌, ◌++◌, length, append_assoc, refl, sym, subst, arith}
use Rattle.std.proofs.Common.{length-append}
use Rattle.std.specs.List.{list_all}
use Rattle.sc_values.specs.Name.{is_letter}
use Rattle.sc_text.specs.declared.language.Language.TheVariants as language
use Rattle.sc_text.specs.declared.word.Word.{Word}
use Rattle.sc_text.specs.declared.sign.Sign.{Sign}
use Rattle.sc_text.specs.declared.token.Token.{Token}
use Rattle.sc_text.specs.declared.token.TokenKind.{TokenKind}
use Rattle.sc_text.specs.declared.token.TokenKind.TheVariants as kind
use Rattle.sc_text.specs.Words.{word_text, sign_text}
use Rattle.sc_text.specs.Pieces.{is_word_byte, IsLongest}
use Rattle.sc_text.specs.Tokens.{AreTokens, passes, token, Spells, a_sign, a_word, a_blank}
use Rattle.sc_text.proofs.Rows.{Stops}
use Rattle.scl_printer_laws.proofs.Longest.{Quiet, Plain, one_longest, two_longest, word_longest, space_longest}

abbrev pub Cuts : (text rest : List ℕ) → (at : ℕ) → List Token → Type 0
Cuts text rest at tokens =
    (later : List Token) → AreTokens language.Scl (at + length text) rest later → AreTokens language.Scl at (text ++ rest) (tokens ++ later)

pub cuts_both : (t u rest : List ℕ) (at : ℕ) (ks ms : List Token) → Cuts t (u ++ rest) at ks → Cuts u rest (at + length t) ms → Cuts (t ++ u) rest at (ks ++ ms)
cuts_both t u rest at ks ms f g later a =
    let place : at + length (t ++ u) ≡ at + length t + length u = (let l = length-append t u in omega (arith, l)) in
    subst (λ x. AreTokens language.Scl at x ((ks ++ ms) ++ later)) (sym (append_assoc t u rest))
    (subst (λ x. AreTokens language.Scl at (t ++ (u ++ rest)) x) (sym (append_assoc ks ms later))
    (f (ms ++ later) (g later (subst (λ k. AreTokens language.Scl k rest later) place a))))

pub cuts_nothing : (rest : List ℕ) (at : ℕ) → Cuts [] rest at []
cuts_nothing rest at later a = subst (λ k. AreTokens language.Scl k rest later) (let e : at + 0 ≡ at = omega arith in e) a

pub cuts_space : (rest : List ℕ) (at : ℕ) → Cuts (32 ∷ []) rest at []
cuts_space rest at later a = passes at (32 ∷ []) rest later (space_longest rest) (a_blank 32 refl) a

pub cuts_one : (text rest : List ℕ) (at : ℕ) (k : TokenKind) → IsLongest text rest → Spells language.Scl text k
    → Cuts text rest at (record { kind = k; at = at } ∷ [])
cuts_one text rest at k longest spells later a = token at text rest k later longest spells a

abbrev pub signed_at : Sign → ℕ → Token
signed_at s at = record { kind = kind.Sign s; at = at }

abbrev pub worded_at : Word → ℕ → Token
worded_at w at = record { kind = kind.Word w; at = at }

pub cuts_sign : (s : Sign) (b : ℕ) → sign_text s ≡ b ∷ [] → Plain b → (rest : List ℕ) → Quiet rest → (at : ℕ) → Cuts (sign_text s) rest at (signed_at s at ∷ [])
cuts_sign s b is plain rest quiet at = cuts_one (sign_text s) rest at (kind.Sign s) (one_longest s b is plain rest quiet) (a_sign s)

pub cuts_pair : (s : Sign) (a b : ℕ) → sign_text s ≡ a ∷ b ∷ [] → Plain a → a ≢ 47 → (rest : List ℕ) (at : ℕ) → Cuts (sign_text s) rest at (signed_at s at ∷ [])
cuts_pair s a b is plain no_slash rest at = cuts_one (sign_text s) rest at (kind.Sign s) (two_longest s a b is plain no_slash rest) (a_sign s)

pub cuts_word : (w : Word) (first : ℕ) (more : List ℕ) → word_text w ≡ first ∷ more → is_letter first ≡ true → list_all is_word_byte more ≡ true
    → (rest : List ℕ) → Stops is_word_byte rest
    → (at : ℕ) → Cuts (word_text w) rest at (worded_at w at ∷ [])
cuts_word w first more is l all rest stops at =
    cuts_one (word_text w) rest at (kind.Word w) (subst (λ t. IsLongest t rest) (sym is) (word_longest first more rest l all stops)) (a_word w)

-- ---- with spaces around

pub spaced : (text rest : List ℕ) (at : ℕ) (k : TokenKind) → Cuts text (32 ∷ rest) (at + 1) (record { kind = k; at = at + 1 } ∷ [])
    → Cuts (32 ∷ (text ++ 32 ∷ [])) rest at (record { kind = k; at = at + 1 } ∷ [])
spaced text rest at k cut =
    cuts_both (32 ∷ []) (text ++ 32 ∷ []) rest at [] (record { kind = k; at = at + 1 } ∷ []) (cuts_space ((text ++ 32 ∷ []) ++ rest) at)
    (cuts_both text (32 ∷ []) rest (at + 1) (record { kind = k; at = at + 1 } ∷ []) [] cut (cuts_space rest (at + 1 + length text)))
