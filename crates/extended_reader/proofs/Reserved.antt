-- Which names are reserved words.
use Rattle.std.proofs.Common.{◌≡◌, ◌≢◌, ℕ, Bool, true, false, List, [], ◌∷◌, refl, ap, ◌∙◌}
use Rattle.std.specs.Prelude.{◌||◌}
use Rattle.std.specs.List.{list_any}
use Rattle.std.specs.Str.{bytes_eq}
use Rattle.std.proofs.lemmas.Slice.Eq.{bytes_eq-Decides}
use Rattle.sc_text.specs.declared.word.Word.{Word}
use Rattle.sc_text.specs.declared.word.Word.TheVariants as word
use Rattle.sc_text.specs.Words.{word_text}
use Rattle.extended_reader.specs.Well.{all_words, is_reserved}

module _ (name : List ℕ) (none : (w : Word) → name ≢ word_text w) where
  is_none : (w : Word) (b : Bool) → bytes_eq name (word_text w) ≡ b → b ≡ false
  is_none w false e = refl
  is_none w true e = absurd (none w ((bytes_eq-Decides name (word_text w)).0 e))

  none_of : (words : List Word) → list_any (λ w. bytes_eq name (word_text w)) words ≡ false
  none_of [] = refl
  none_of (w ∷ words) =
      ap (λ b. b || list_any (λ w. bytes_eq name (word_text w)) words) (is_none w (bytes_eq name (word_text w)) refl) ∙ none_of words

  pub free : is_reserved name ≡ false
  free = none_of all_words

pub reserved : (w : Word) → is_reserved (word_text w) ≡ true
reserved word.Chart = refl
reserved word.Scl = refl
reserved word.Input = refl
reserved word.Output = refl
reserved word.Local = refl
reserved word.Bool = refl
reserved word.Int = refl
reserved word.Region = refl
reserved word.Initial = refl
reserved word.Final = refl
reserved word.State = refl
reserved word.Go = refl
reserved word.Strong = refl
reserved word.Weak = refl
reserved word.Join = refl
reserved word.Immediate = refl
reserved word.If = refl
reserved word.Else = refl
reserved word.Do = refl
reserved word.Goto = refl
reserved word.Fork = refl
reserved word.Par = refl
reserved word.Pause = refl
reserved word.True = refl
reserved word.False = refl
reserved word.Not = refl
reserved word.And = refl
reserved word.Or = refl
reserved word.Min = refl
reserved word.Max = refl

pub taken : (name : List ℕ) (w : Word) → name ≡ word_text w → is_reserved name ≡ true
taken name w e = ap is_reserved e ∙ reserved w
