-- What the tokens of a text spell by a grammar is one, and so is the place where they can't go on: never both.
use Rattle.std.proofs.Common.{◌≡◌, ℕ, List, [], sym, ◌∙◌, ap}
use Rattle.grammar.specs.Grammar.{Grammar, spells}
use Rattle.grammar.specs.Read.{Flaw, Outcome, Got, Failed, read_all}
use Rattle.grammar.specs.Fault.{Fault}
use Rattle.grammar.specs.Deeper.{IsLanguage}
use Rattle.grammar.proofs.Told.{told_spelled, told_fault}
use Rattle.sc_text.specs.declared.token.Token.{Token}
use Rattle.sc_text.specs.declared.language.Language.{Language}
use Rattle.sc_text.specs.Expression.{text_tokens}
use Rattle.sc_text.specs.Tokens.{AreTokens}
use Rattle.sc_text.proofs.OneCut.{one_list}

-- the flaw and what is left are equal
pub record SameStop (flaw other : Flaw) (rest left : List Token) : Type 0 where
  pub flaws : flaw ≡ other
  pub rests : rest ≡ left

same_stop : {A : Type 0} (flaw other : Flaw) (rest left : List Token) (o : Outcome Token A) → o ≡ Failed flaw rest → o ≡ Failed other left
    → SameStop flaw other rest left
same_stop flaw other rest left o e f =
    let same : Failed flaw rest ≡ Failed other left = sym e ∙ f in
    let flaws : flaw ≡ other = cc in
    let rests : rest ≡ left = cc in
    record { flaws = flaws; rests = rests }

module _ {A : Type 0} (l : Language) (g : ℕ
    → Grammar text_tokens A) (is : IsLanguage g) (text : List ℕ) (tokens others : List Token)
    (cut : AreTokens l 0 text tokens) (other_cut : AreTokens l 0 text others) where
  same : tokens ≡ others
  same = one_list l text tokens others cut other_cut

  pub one_phrase : (x y : A) → spells (g 0) tokens x → spells (g 0) others y → x ≡ y
  one_phrase x y s t =
      let read : read_all (g 0) tokens ≡ Got x [] = told_spelled g is tokens x s in
      let again : read_all (g 0) others ≡ Got y [] = told_spelled g is others y t in
      let both : Got x [] ≡ Got y [] = sym read ∙ ap (read_all (g 0)) same ∙ again in
      cc

  pub no_stop : (x : A) (flaw : Flaw) (rest : List Token) → spells (g 0) tokens x → ¬ Fault g others flaw rest
  no_stop x flaw rest s f =
      let read : read_all (g 0) tokens ≡ Got x [] = told_spelled g is tokens x s in
      let stop : read_all (g 0) others ≡ Failed flaw rest = told_fault g is others rest flaw f in
      let both : Got x [] ≡ Failed flaw rest = sym read ∙ ap (read_all (g 0)) same ∙ stop in
      absurd (cc)

  pub one_stop : (flaw other : Flaw) (rest left : List Token) → Fault g tokens flaw rest → Fault g others other left → SameStop flaw other rest left
  one_stop flaw other rest left f h =
      let stop : read_all (g 0) tokens ≡ Failed flaw rest = told_fault g is tokens rest flaw f in
      let again : read_all (g 0) others ≡ Failed other left = told_fault g is others left other h in
      same_stop flaw other rest left (read_all (g 0) tokens) stop (ap (read_all (g 0)) same ∙ again)
