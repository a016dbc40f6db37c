-- Two ways of reading that give the same.
use Rattle.std.proofs.Common.{◌≡◌, ℕ, List, refl, sym, ◌∙◌, ap, subst}
use Rattle.std.specs.Prelude.{Result, Ok, Err, MatchResult, OnOk}
use Rattle.grammar.specs.Grammar.{one}
use Rattle.grammar.specs.Read.{Outcome, Got, Failed, next, read}
use Rattle.sc_text.specs.declared.token.Token.{Token}
use Rattle.sc_text.specs.declared.read_fault.ReadFault.{ReadFault}
use Rattle.sc_text.specs.Classes.{Class}
use Rattle.sc_text.specs.Expression.{text_tokens, after}
use Rattle.sc_text.specs.Reading.{Stops, Takes}
use Rattle.chart_reader.specs.ChartText.{Grows}
use Rattle.chart_reader.specs.Phrase.{Gives}

-- what is said of reading in one way is said of reading in the other
pub reading_so : {A T : Type 0} (K : Outcome Token A → Type 0) (o p : Outcome Token A) (end : ℕ) (r : Result T ReadFault) → o ≡ p
    → MatchResult r (λ x. K p) (λ f. Stops end p f) → MatchResult r (λ x. K o) (λ f. Stops end o f)
reading_so K o p end r e m = subst (λ q. MatchResult r (λ x. K q) (λ f. Stops end q f)) (sym e) m

module _ {A : Type 0} where
  -- what is said of reading in one way is said of reading in the other
  pub same_reading : (o p : Outcome Token A) (end : ℕ) (r : Result A ReadFault) (rest : List Token) → o ≡ p
      → MatchResult r (λ x. Gives p x rest) (λ f. Stops end p f) → MatchResult r (λ x. Gives o x rest) (λ f. Stops end o f)
  same_reading o p end r rest e m = subst (λ q. MatchResult r (λ x. Gives q x rest) (λ f. Stops end q f)) (sym e) m

  abbrev beside : Token → A → Token × A
  beside t a = (t, a)

  second_alone : (t : Token) (o : Outcome Token A) → next (next o (λ a end. Got (beside t a) end)) (λ x end. Got x.1 end) ≡ o
  second_alone t (Got a rest) = refl
  second_alone t (Failed flaw rest) = refl

  -- behind a token that was taken
  pub after_read : (ks : List Class) (g : Grows A) (text rest : List Token) → Takes (read (one {L = text_tokens} ks) text) rest
      → read (after ks g) text ≡ read g rest
  after_read ks g text rest t =
      ap (λ o. next (next o (λ a rest. next (read g rest) (λ b end. Got (beside a b) end))) (λ x end. Got x.1 end)) t.is ∙ second_alone t.token (read g rest)

pub on_ok_is : {T E A : Type 0} {y z : A} (x : A) (r : Result T E) → OnOk r (x ≡ y) → y ≡ z → OnOk r (x ≡ z)
on_ok_is x (Ok a) m e = m ∙ e
on_ok_is x (Err f) m e = tt
