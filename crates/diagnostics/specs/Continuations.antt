-- How a text can go on at a place: with which words, signs, names and numbers its readers do not stop there.
use Rattle.std.specs.Prelude.{ℕ, ◌+◌, ◌↔◌, Bool, true, false, IsTrue, List, [], ◌∷◌, ◌++◌, length, codes}
use Rattle.sc_text.specs.declared.language.Language.{Language}
use Rattle.sc_text.specs.declared.language.Language.TheVariants as language
use Rattle.sc_text.specs.declared.read_fault.FaultKind.{FaultKind}
use Rattle.sc_text.specs.declared.read_fault.FaultKind.TheVariants as broken
use Rattle.sc_text.specs.declared.read_fault.ReadFault.{ReadFault}
use Rattle.sc_text.specs.declared.read_fault.ReadFault.TheVariants as fault
use Rattle.sc_text.specs.declared.word.Word.{Word}
use Rattle.sc_text.specs.declared.word.Word.TheVariants as word
use Rattle.sc_text.specs.declared.sign.Sign.{Sign}
use Rattle.sc_text.specs.declared.sign.Sign.TheVariants as sign
use Rattle.sc_text.specs.Words.{word_text, sign_text}
use Rattle.chart_reader.specs.Checked as charts
use Rattle.scl_reader.specs.Checked as programs
use Rattle.extended_reader.specs.Checked as extended
use Rattle.chart_texts.specs.FirstWord.{BeginsExtended}
use Rattle.sc_text.specs.FirstToken.{IsIn}
use Rattle.diagnostics.specs.declared.could_follow.continuations.Continuations.{Continuations}
use Rattle.diagnostics.specs.declared.could_follow.grammars.Grammar.{Grammar}
use Rattle.diagnostics.specs.declared.could_follow.grammars.Grammar.TheVariants as grammars

-- the grammar by which a text is read: its first token tells
abbrev pub IsReadBy : List ℕ → Grammar → Type 0
IsReadBy text grammars.Chart = IsIn text language.Chart
IsReadBy text grammars.ExtendedChart = BeginsExtended text
IsReadBy text grammars.Scl = (¬ BeginsExtended text) × IsIn text language.Scl

-- the language into whose tokens a text of this grammar is cut
abbrev pub tokens_of : Grammar → Language
tokens_of grammars.Chart = language.Chart
tokens_of grammars.ExtendedChart = language.Chart
tokens_of grammars.Scl = language.Scl

-- the fault of a text of this grammar
abbrev pub IsFaultOf : Grammar → List ℕ → ReadFault → Type 0
IsFaultOf grammars.Chart text f = charts.IsTextFault text f
IsFaultOf grammars.ExtendedChart text f = extended.IsTextFault text f
IsFaultOf grammars.Scl text f = programs.IsTextFault text f

-- what is broken where a text cannot go on: the grammar, or a limit
abbrev pub is_of_grammar : FaultKind → Bool
is_of_grammar broken.Grammar = true
is_of_grammar broken.Limit = true
is_of_grammar other = false

-- the text cannot go on with what stands at this place: no text of the grammar does, or only texts that pass a limit
pub record StopsAt (g : Grammar) (text : List ℕ) (at : ℕ) : Type 0 where
  pub broken : FaultKind
  pub of_grammar : IsTrue (is_of_grammar broken)
  pub fault : IsFaultOf g text (fault.Text broken at)

-- the piece can follow these bytes, with a space between
abbrev pub CanFollow : Grammar → List ℕ → List ℕ → Type 0
CanFollow g front piece = ¬ StopsAt g (front ++ (codes " " ++ piece)) (length front + 1)

-- those of a list of which this holds, in its order
pub data AreThose {X : Type 0} (P : X → Type 0) : List X → List X → Type 0 where
  none : AreThose P [] []
  taken : (xs ys : List X) (x : X) → AreThose P xs ys → P x → AreThose P (xs ++ x ∷ []) (ys ++ x ∷ [])
  left : (xs ys : List X) (x : X) → AreThose P xs ys → ¬ P x → AreThose P (xs ++ x ∷ []) ys

abbrev pub all_words : List Word
all_words =
    word.Chart ∷ word.Scl ∷ word.Input ∷ word.Output ∷ word.Local ∷ word.Bool ∷ word.Int ∷ word.Region ∷ word.Initial ∷ word.Final
    ∷ word.State ∷ word.Immediate ∷ word.If ∷ word.Do ∷ word.Go ∷ word.Strong ∷ word.Weak ∷ word.Join ∷ word.Else ∷ word.Goto
    ∷ word.Fork ∷ word.Par ∷ word.Pause ∷ word.True ∷ word.False ∷ word.Not ∷ word.And ∷ word.Or ∷ word.Min ∷ word.Max ∷ []

abbrev pub all_signs : List Sign
all_signs =
    sign.Becomes ∷ sign.Arrow ∷ sign.OpenBrace ∷ sign.CloseBrace ∷ sign.OpenParenthesis ∷ sign.CloseParenthesis ∷ sign.Semicolon
    ∷ sign.Colon ∷ sign.Comma ∷ sign.Plus ∷ sign.Minus ∷ sign.Star ∷ sign.Slash ∷ sign.Percent ∷ sign.Equal ∷ sign.NotEqual
    ∷ sign.Less ∷ sign.LessOrEqual ∷ sign.Greater ∷ sign.GreaterOrEqual ∷ []

-- what can follow these bytes: a name, a number, and which of the words and signs
pub record AreContinuations (g : Grammar) (front : List ℕ) (c : Continuations) : Type 0 where
  pub name : IsTrue c.name ↔ CanFollow g front (codes "x")
  pub number : IsTrue c.number ↔ CanFollow g front (codes "1")
  pub words : AreThose (λ w. CanFollow g front (word_text w)) all_words c.words
  pub signs : AreThose (λ s. CanFollow g front (sign_text s)) all_signs c.signs
