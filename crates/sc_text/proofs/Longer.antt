-- What is read of a grammar's phrases at the front of a longer text.
use Rattle.std.proofs.Common.{◌≡◌, ℕ, false, List, [], ◌++◌, sym, ◌∙◌, ap, subst}
use Rattle.grammar.specs.Grammar.{Grammar, spells}
use Rattle.grammar.specs.Predictive.{tails}
use Rattle.grammar.specs.Read.{Flaw, Outcome, Got, Failed, starts, next, read, ended, read_all}
use Rattle.grammar.specs.Deeper.{IsLanguage}
use Rattle.grammar.specs.Fault.{Fault, Told}
use Rattle.grammar.proofs.Sets.{alike_same}
use Rattle.grammar.proofs.Reading.{Verdict, good, bad}
use Rattle.grammar.proofs.Every.{reads}
use Rattle.grammar.proofs.Told.{told}
use Rattle.sc_text.specs.declared.token.Token.{Token}
use Rattle.sc_text.specs.Expression.{text_tokens}

module _ {A : Type 0} (g : ℕ → Grammar text_tokens A) (is : IsLanguage g) where
  pub within : (front rest : List Token) (x : A) → spells (g 0) front x → starts text_tokens (tails (g 0)) rest ≡ false
      → read (g 0) (front ++ rest) ≡ Got x rest
  within front rest x s f = (reads (g 0) (is.predictive 0)).complete front rest x s f

  begun_by : (text rest : List Token) (x : A) → Verdict (spells (g 0)) (read (g 0)) text → read (g 0) text ≡ Got x rest
      → (front : List Token) × (text ≡ front ++ rest) × spells (g 0) front x
  begun_by text rest x (good front end y e s again) r =
      let both : Got y end ≡ Got x rest = sym (again end (alike_same end)) ∙ ap (read (g 0)) (sym e) ∙ r in
      let means : y ≡ x = cc in
      let ends : end ≡ rest = cc in
      (front, e ∙ ap (λ t. front ++ t) ends, subst (spells (g 0) front) means s)
  begun_by text rest x (bad front end flaw e s again) r =
      let both : Failed flaw end ≡ Got x rest = sym (again end (alike_same end)) ∙ ap (read (g 0)) (sym e) ∙ r in
      absurd (cc)

  pub begun : (text rest : List Token) (x : A) → read (g 0) text ≡ Got x rest
      → (front : List Token) × (text ≡ front ++ rest) × spells (g 0) front x
  begun text rest x r = begun_by text rest x ((reads (g 0) (is.predictive 0)).verdict text) r

  pub stopped : (text rest : List Token) (flaw : Flaw) → read (g 0) text ≡ Failed flaw rest → Fault g text flaw rest
  stopped text rest flaw r =
      let all : read_all (g 0) text ≡ Failed flaw rest = ap (λ o. next o ended) r in
      subst (Told g text) all (told g is text)
