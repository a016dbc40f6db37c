-- The words and signs by which modules and uses are found. The words are names.
use Rattle.std.specs.Prelude.{ℕ, Bool, true, false, ◌&&◌, Option, Some, None, List, [], ◌∷◌, codes}
use Rattle.std.specs.Str.{bytes_eq}
use Rattle.sc_text.specs.declared.word.Word.TheVariants as word
use Rattle.sc_text.specs.declared.sign.Sign.TheVariants as sign
use Rattle.sc_text.specs.declared.token.Token.{Token}
use Rattle.sc_text.specs.declared.token.TokenKind.{TokenKind}
use Rattle.sc_text.specs.declared.token.TokenKind.TheVariants as token

-- the name that a token is, or none
abbrev pub name_in : TokenKind → Option (List ℕ)
name_in (token.Name n) = Some n
name_in k = None

abbrev pub is_name : TokenKind → Bool
is_name (token.Name n) = true
is_name k = false

abbrev pub is_word : (word : List ℕ) → TokenKind → Bool
is_word word (token.Name n) = bytes_eq n word
is_word word k = false

abbrev pub is_opening : TokenKind → Bool
is_opening (token.Sign sign.OpenParenthesis) = true
is_opening k = false

-- a module or a use begins: this word, a name and a parenthesis
abbrev pub begins : (word : List ℕ) → List Token → Bool
begins word (t ∷ n ∷ p ∷ rest) = is_word word t.kind && (is_name n.kind && is_opening p.kind)
begins word text = false

-- a token behind which an item, an action, a region, a state or a transition may begin
abbrev pub is_end : TokenKind → Bool
is_end (token.Sign sign.Semicolon) = true
is_end (token.Sign sign.OpenBrace) = true
is_end (token.Sign sign.CloseBrace) = true
is_end k = false

abbrev pub is_closing : TokenKind → Bool
is_closing (token.Sign sign.CloseBrace) = true
is_closing k = false

abbrev pub is_region : TokenKind → Bool
is_region (token.Word word.Region) = true
is_region k = false

-- behind these an item names what it declares: its kind, or the word of signals
abbrev pub is_declaring : TokenKind → Bool
is_declaring (token.Word word.Bool) = true
is_declaring (token.Word word.Int) = true
is_declaring k = is_word (codes "signal") k
