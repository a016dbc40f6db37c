-- Reading a row of phrases: what one round of the loop adds, and where it stops.
use Rattle.std.proofs.Common.{◌≡◌, ℕ, zero, suc, ◌+◌, ◌-◌, ◌≤◌, ◌<◌, true, false, List, [], ◌∷◌, ◌++◌, length, refl, sym, ◌∙◌, ap, subst, arith}
use Rattle.std.proofs.lemmas.List.{append_assoc, append-nil}
use Rattle.grammar.specs.Grammar.{many}
use Rattle.grammar.specs.Predictive.{first}
use Rattle.grammar.specs.Read.{Outcome, Got, Failed, starts, next, choose, read_each, read}
use Rattle.sc_text.specs.declared.token.Token.{Token}
use Rattle.sc_text.specs.declared.read_fault.ReadFault.{ReadFault}
use Rattle.sc_text.specs.Classes.{Class}
use Rattle.sc_text.specs.Expression.{text_tokens}
use Rattle.sc_text.specs.Reading.{Stops}
use Rattle.sc_text.proofs.Steps.{next_stops, stops_as}
use Rattle.chart_reader.specs.ChartText.{Grows, listed}
use Rattle.chart_reader.specs.PartsRead.{IsGoing}
use Rattle.chart_reader.specs.Phrase.{Gives}

abbrev paired : {A B : Type 0} → A → B → A × B
paired a b = (a, b)

module _ {A : Type 0} (g : Grows A) where
  abbrev each_of : ℕ → List Token → Outcome Token (List A)
  each_of left rest = read_each (starts text_tokens (first g)) (read g) left rest

  behind_nothing : (o : Outcome Token (List A)) → o ≡ next o (λ xs end. Got ([] ++ xs) end)
  behind_nothing (Got xs rest) = refl
  behind_nothing (Failed flaw rest) = refl

  pub many_goes : (ks : List Class) → first g ≡ ks → (text : List Token) (most : ℕ) (found : List A) → most ≡ length text → found ≡ []
      → IsGoing (read (many g) text) g ks found (most - 0) text
  many_goes ks b text most found e f =
      let left : length text ≡ most - 0 = omega (arith, e) in
      record {
        begins = b;
        is =
            behind_nothing (each_of (length text) text) ∙ ap (λ n. next (each_of n text) (λ xs end. Got ([] ++ xs) end)) left
            ∙ ap (λ d. next (each_of (most - 0) text) (λ xs end. Got (d ++ xs) end)) (sym f);
      }

  behind_one : (x : A) (o : Outcome Token (List A)) → next (next o (λ b end. Got (paired x b) end)) (λ y r. Got (y.0 ∷ y.1) r)
      ≡ next o (λ xs end. Got ((x ∷ []) ++ xs) end)
  behind_one x (Got xs rest) = refl
  behind_one x (Failed flaw rest) = refl

  pub listed_goes : (ks : List Class) → first g ≡ ks → (h : Grows A) (text rest : List Token) (x : A) (most : ℕ) (none found : List A)
      → Gives (read h text) x rest → most ≡ length rest → none ≡ [] → found ≡ none ++ x ∷ [] → IsGoing (read (listed h g) text) g ks found (most - 0) rest
  listed_goes ks b h text rest x most none found r e n f =
      let left : length rest ≡ most - 0 = omega (arith, e) in
      record {
        begins = b;
        is =
            ap (λ o. next (next o (λ a rest. next (each_of (length rest) rest) (λ b end. Got (paired a b) end))) (λ y r. Got (y.0 ∷ y.1) r)) r.is
            ∙ behind_one x (each_of (length rest) rest)
            ∙ ap (λ m. next (each_of m rest) (λ xs end. Got ((x ∷ []) ++ xs) end)) left
            ∙ ap (λ d. next (each_of (most - 0) rest) (λ xs end. Got (d ++ xs) end)) (sym (f ∙ ap (λ m. m ++ x ∷ []) n));
      }

  pub listed_stops : (h : Grows A) (text : List Token) (end : ℕ) (f : ReadFault) → Stops end (read h text) f → Stops end (read (listed h g) text) f
  listed_stops h text end f s = next_stops end _ _ f (next_stops end (read h text) _ f s)

  ends_each : (left : ℕ) (rest : List Token) → starts text_tokens (first g) rest ≡ false → each_of left rest ≡ Got [] rest
  ends_each zero rest e = refl
  ends_each (suc n) rest e = ap (λ b. choose b (next (read g rest) (λ x r. next (each_of n r) (λ xs end. Got (x ∷ xs) end))) (Got [] rest)) e

  module _ (ks : List Class) (o : Outcome Token (List A)) (found : List A) where
    ended : (left : ℕ) (rest : List Token) → IsGoing o g ks found left rest → each_of left rest ≡ Got [] rest → Gives o found rest
    ended left rest i e =
        record { is = i.is ∙ ap (λ q. next q (λ xs end. Got (found ++ xs) end)) e ∙ ap (λ d. Got d rest) (append-nil found) }

    pub going_ends : (left : ℕ) (rest : List Token) → IsGoing o g ks found left rest → starts text_tokens ks rest ≡ false → Gives o found rest
    going_ends left rest i e = ended left rest i (ends_each left rest (ap (λ ls. starts text_tokens ls rest) i.begins ∙ e))

    pub going_over : (most used : ℕ) (rest : List Token) → most ≤ used → IsGoing o g ks found (most - used) rest → Gives o found rest
    going_over most used rest le i =
        let none : most - used ≡ 0 = omega (arith, le) in
        ended (most - used) rest i (ap (λ n. each_of n rest) none)

    one_round : (less : ℕ) (rest : List Token) → IsGoing o g ks found (suc less) rest → starts text_tokens ks rest ≡ true
        → o ≡ next (next (read g rest) (λ x r. next (each_of less r) (λ xs end. Got (x ∷ xs) end))) (λ xs end. Got (found ++ xs) end)
    one_round less rest i e =
        i.is
        ∙ ap (λ c. next (choose c (next (read g rest) (λ x r. next (each_of less r) (λ xs end. Got (x ∷ xs) end))) (Got [] rest))
        (λ xs end. Got (found ++ xs) end)) (ap (λ ls. starts text_tokens ls rest) i.begins ∙ e)

    one_less : (most used : ℕ) → used < most → most - used ≡ suc (most - (used + 1))
    one_less most used lt = omega (arith, lt)

    pub going_stops : (most used : ℕ) (rest : List Token) (end : ℕ) (f : ReadFault) → used < most → IsGoing o g ks found (most - used) rest
        → starts text_tokens ks rest ≡ true → Stops end (read g rest) f → Stops end o f
    going_stops most used rest end f lt i e s =
        let j : IsGoing o g ks found (suc (most - (used + 1))) rest = subst (λ n. IsGoing o g ks found n rest) (one_less most used lt) i in
        stops_as end o _ f (one_round (most - (used + 1)) rest j e) (next_stops end _ _ f (next_stops end (read g rest) _ f s))

    more_found : (x : A) (q : Outcome Token (List A)) → next (next q (λ xs end. Got (x ∷ xs) end)) (λ xs end. Got (found ++ xs) end)
        ≡ next q (λ xs end. Got ((found ++ x ∷ []) ++ xs) end)
    more_found x (Got xs end) = ap (λ d. Got d end) (sym (append_assoc found (x ∷ []) xs))
    more_found x (Failed flaw end) = refl

    pub going_on : (most used : ℕ) (rest after : List Token) (x : A) (new : List A) → used < most → IsGoing o g ks found (most - used) rest
        → starts text_tokens ks rest ≡ true → Gives (read g rest) x after → new ≡ found ++ x ∷ [] → IsGoing o g ks new (most - (used + 1)) after
    going_on most used rest after x new lt i e r n =
        let j : IsGoing o g ks found (suc (most - (used + 1))) rest = subst (λ n. IsGoing o g ks found n rest) (one_less most used lt) i in
        record {
          begins = i.begins;
          is =
              one_round (most - (used + 1)) rest j e
              ∙ ap (λ q. next (next q (λ x r. next (each_of (most - (used + 1)) r) (λ xs end. Got (x ∷ xs) end))) (λ xs end. Got (found ++ xs) end)) r.is
              ∙ more_found x (each_of (most - (used + 1)) after)
              ∙ ap (λ d. next (each_of (most - (used + 1)) after) (λ xs end. Got (d ++ xs) end)) (sym n);
        }
