-- The tokens that texts of charts have: no name is a reserved word or begins with `_`, and no number is negative.
use Rattle.std.specs.Prelude.{ℕ, ℤ, pos, negsuc, nat_le, Bool, true, false, not, ◌&&◌, List, [], ◌∷◌, if◌then◌else◌}
use Rattle.std.specs.List.{list_any, list_all}
use Rattle.std.specs.Str.{bytes_eq}
use Rattle.sc_text.specs.declared.language.Language.TheVariants as language
use Rattle.sc_text.specs.declared.word.Word.{Word}
use Rattle.sc_text.specs.declared.word.Word.TheVariants as word
use Rattle.sc_text.specs.declared.token.Token.{Token}
use Rattle.sc_text.specs.declared.token.TokenKind.{TokenKind}
use Rattle.sc_text.specs.declared.token.TokenKind.TheVariants as token
use Rattle.sc_text.specs.declared.read_fault.FaultKind.TheVariants as broken
use Rattle.sc_text.specs.Words.{word_text}
use Rattle.sc_text.specs.Tokens.{allows, number_limit}
use Rattle.extended_reader.specs.Answer.{Answer, Good, Bad}

abbrev pub all_words : List Word
all_words =
    word.Chart ∷ word.Scl ∷ word.Input ∷ word.Output ∷ word.Local ∷ word.Bool ∷ word.Int ∷ word.Region ∷ word.Initial ∷ word.Final ∷ word.State
    ∷ word.Go ∷ word.Strong ∷ word.Weak ∷ word.Join ∷ word.Immediate ∷ word.If ∷ word.Else ∷ word.Do ∷ word.Goto ∷ word.Fork ∷ word.Par ∷ word.Pause
    ∷ word.True ∷ word.False ∷ word.Not ∷ word.And ∷ word.Or ∷ word.Min ∷ word.Max ∷ []

abbrev pub is_reserved : List ℕ → Bool
is_reserved name = list_any (λ w. bytes_eq name (word_text w)) all_words

abbrev pub begins_well : List ℕ → Bool
begins_well [] = true
begins_well (b ∷ name) = allows language.Chart b

abbrev pub is_natural : ℤ → Bool
is_natural (pos n) = nat_le n number_limit
is_natural (negsuc n) = false

abbrev pub is_well : TokenKind → Bool
is_well (token.Name n) = begins_well n && not (is_reserved n)
is_well (token.Number n) = is_natural n
is_well k = true

abbrev pub are_well : List Token → Bool
are_well text = list_all (λ t. is_well t.kind) text

-- each token is one that texts have
abbrev pub well_text : (end : ℕ) → List Token → Answer (List Token)
well_text end text = if are_well text then Good text else Bad broken.Token end
