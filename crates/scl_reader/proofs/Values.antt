-- An expression with its first token, up to the sign that closes it.
use Rattle.std.proofs.Common.{◌≡◌, ℕ, true, false, List, [], ◌∷◌, refl, ap}
use Rattle.grammar.specs.Grammar.{one, headed, spells}
use Rattle.grammar.specs.Predictive.{empties, first, Predictive}
use Rattle.grammar.specs.Read.{Got, Failed, starts, next, with_head, read}
use Rattle.grammar.proofs.Reading.{Verdict, good, bad, begins_some}
use Rattle.grammar.proofs.Every.{reads}
use Rattle.sc_text.specs.declared.token.Token.{Token}
use Rattle.sc_text.specs.declared.sign.Sign.{Sign}
use Rattle.sc_text.specs.declared.read_fault.ReadFault.{ReadFault}
use Rattle.sc_text.specs.Classes.{TheSign}
use Rattle.sc_text.specs.Phrases.{Phrase}
use Rattle.sc_text.specs.Expression.{text_tokens, before, expression}
use Rattle.sc_text.specs.Reading.{Stops, Reads, Takes, place_of}
use Rattle.sc_text.proofs.Shapes.{expression_is}
use Rattle.sc_text.proofs.Steps.{next_stops}
use Rattle.sc_text.specs.declared.drafts.parts.TextExpression.{TextExpression}
use Rattle.scl_reader.specs.Program.{Grows}
use Rattle.scl_reader.specs.Inside.TextDrafts.{TakesValue}
use Rattle.scl_reader.proofs.Taking.{before_got, before_stops, before_stops_behind}

-- nothing is read of no token where no phrase is empty
module _ {A : Type 0} (g : Grows A) (p : Predictive g) (v : empties g ≡ false) where
  none_read : (x : A) (rest : List Token) → Verdict (spells g) (read g) [] → read g [] ≡ Got x rest → ⊥
  none_read x rest (good [] end y e s again) r =
      let starts_it : starts text_tokens (first g) [] ≡ true = begins_some _ _ _ _ _ _ _ (reads g p) v [] y s in
      cc
  none_read x rest (good (t ∷ front) end y e s again) r = cc
  none_read x rest (bad [] [] flaw e s again) r = let fails : read g [] ≡ Failed flaw [] = again [] tt in cc
  none_read x rest (bad [] (t ∷ end) flaw e s again) r = cc
  none_read x rest (bad (t ∷ front) end flaw e s again) r = cc

  pub some_read : (x : A) (rest : List Token) → read g [] ≡ Got x rest → ⊥
  some_read x rest r = none_read x rest ((reads g p).verdict []) r

-- an expression that was read has a first token
headed_got : (end : ℕ) (text rest : List Token) (x : Phrase) → read (expression 0) text ≡ Got x rest → (t : Token) × (place_of end text ≡ t.at)
    × (read (headed (expression 0)) text ≡ Got (t, x) rest)
headed_got end [] rest x e = absurd (some_read (expression 0) (expression_is 0).predictive (expression_is 0).voids x rest e)
headed_got end (t ∷ text) rest x e = (t, refl, ap (λ o. next o (with_head (t ∷ text))) e)

module _ (closing : Sign) (text : List Token) (end : ℕ) where
  pub value_stops : (f : ReadFault) → Stops end (read (expression 0) text) f → Stops end (read (before (headed (expression 0)) (TheSign closing ∷ [])) text) f
  value_stops f s = before_stops (TheSign closing ∷ []) (headed (expression 0)) end text f (next_stops end (read (expression 0) text) (with_head text) f s)

  pub closing_stops : (rest : List Token) (code : Phrase) (f : ReadFault) → Reads (read (expression 0) text) [] code rest
      → Stops end (read (one {L = text_tokens} (TheSign closing ∷ [])) rest) f → Stops end (read (before (headed (expression 0)) (TheSign closing ∷ [])) text) f
  closing_stops rest code f r s =
      let h = headed_got end text rest r.phrase r.is in
      before_stops_behind (TheSign closing ∷ []) (headed (expression 0)) end text rest (h.0, r.phrase) f h.2 s

  pub value_taken : (rest more : List Token) (code : Phrase) (value : TextExpression) → value ≡ record { start = place_of end text; operations = code }
      → Reads (read (expression 0) text) [] code rest → Takes (read (one {L = text_tokens} (TheSign closing ∷ [])) rest) more
      → TakesValue (read (before (headed (expression 0)) (TheSign closing ∷ [])) text) value more
  value_taken rest more code value v r t =
      let h = headed_got end text rest r.phrase r.is in
      let begins = h.1 in
      let gained = r.behind in
      record {
        head = h.0;
        phrase = r.phrase;
        is = before_got (TheSign closing ∷ []) (headed (expression 0)) text rest more (h.0, r.phrase) h.2 t;
        means = cc;
      }
