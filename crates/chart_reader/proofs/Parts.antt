-- Reading phrases one behind the other: what is got, and where it stops.
use Rattle.std.proofs.Common.{◌≡◌, ℕ, true, false, Some, None, List, ◌∷◌, ◌∙◌, ap}
use Rattle.grammar.specs.Grammar.{one, seq, either, maybe, made}
use Rattle.grammar.specs.Predictive.{first}
use Rattle.grammar.specs.Read.{Outcome, Got, starts, next, choose, read}
use Rattle.sc_text.specs.declared.token.Token.{Token}
use Rattle.sc_text.specs.declared.read_fault.ReadFault.{ReadFault}
use Rattle.sc_text.specs.Classes.{Class}
use Rattle.sc_text.specs.Expression.{text_tokens, after, before}
use Rattle.sc_text.specs.Reading.{Stops, Takes}
use Rattle.sc_text.proofs.Steps.{wrong_at, one_fails, one_got, next_stops, stops_as}
use Rattle.chart_reader.specs.ChartText.{Grows}
use Rattle.chart_reader.specs.Phrase.{Gives}

module _ {A B : Type 0} (g : Grows A) (h : Grows B) (text : List Token) where
  pub seq_stops_first : (end : ℕ) (f : ReadFault) → Stops end (read g text) f → Stops end (read (seq g h) text) f
  seq_stops_first end f s = next_stops end (read g text) _ f s

  pub seq_stops_second : (rest : List Token) (a : A) (end : ℕ) (f : ReadFault) → Gives (read g text) a rest → Stops end (read h rest) f
      → Stops end (read (seq g h) text) f
  seq_stops_second rest a end f r s =
      stops_as end _ _ f (ap (λ o. next o (λ a rest. next (read h rest) (λ b end. Got (a, b) end))) r.is) (next_stops end (read h rest) _ f s)

  pub seq_gives : (rest more : List Token) (a : A) (b : B) → Gives (read g text) a rest → Gives (read h rest) b more → Gives (read (seq g h) text) (a, b) more
  seq_gives rest more a b r s =
      record { is = ap (λ o. next o (λ a rest. next (read h rest) (λ b end. Got (a, b) end))) r.is ∙ ap (λ o. next o (λ b end. Got (a, b) end)) s.is }

module _ {A B : Type 0} (F : A → B) (g : Grows A) (text : List Token) where
  pub made_stops : (end : ℕ) (f : ReadFault) → Stops end (read g text) f → Stops end (read (made F g) text) f
  made_stops end f s = next_stops end (read g text) _ f s

  pub made_gives : (a : A) (rest : List Token) → Gives (read g text) a rest → Gives (read (made F g) text) (F a) rest
  made_gives a rest r = record { is = ap (λ o. next o (λ a rest. Got (F a) rest)) r.is }

-- ---- behind a token, and before one

module _ {A : Type 0} (ks : List Class) (g : Grows A) (text : List Token) where
  pub after_stops_first : (end : ℕ) (f : ReadFault) → Stops end (read (one {L = text_tokens} ks) text) f → Stops end (read (after ks g) text) f
  after_stops_first end f s = made_stops _ (seq (one ks) g) text end f (seq_stops_first (one ks) g text end f s)

  pub after_stops_second : (rest : List Token) (end : ℕ) (f : ReadFault) → Takes (read (one {L = text_tokens} ks) text) rest → Stops end (read g rest) f
      → Stops end (read (after ks g) text) f
  after_stops_second rest end f t s =
      made_stops _ (seq (one ks) g) text end f (seq_stops_second (one ks) g text rest t.token end f (record { is = t.is }) s)

  pub after_gives : (rest more : List Token) (a : A) → Takes (read (one {L = text_tokens} ks) text) rest → Gives (read g rest) a more
      → Gives (read (after ks g) text) a more
  after_gives rest more a t r =
      made_gives _ (seq (one ks) g) text (t.token, a) more (seq_gives (one ks) g text rest more t.token a (record { is = t.is }) r)

  pub before_stops_first : (end : ℕ) (f : ReadFault) → Stops end (read g text) f → Stops end (read (before g ks) text) f
  before_stops_first end f s = made_stops _ (seq g (one ks)) text end f (seq_stops_first g (one ks) text end f s)

  pub before_stops_second : (rest : List Token) (a : A) (end : ℕ) (f : ReadFault) → Gives (read g text) a rest
      → Stops end (read (one {L = text_tokens} ks) rest) f → Stops end (read (before g ks) text) f
  before_stops_second rest a end f r s =
      made_stops _ (seq g (one ks)) text end f (seq_stops_second g (one ks) text rest a end f r s)

  pub before_gives : (rest more : List Token) (a : A) → Gives (read g text) a rest → Takes (read (one {L = text_tokens} ks) rest) more
      → Gives (read (before g ks) text) a more
  before_gives rest more a r t =
      made_gives _ (seq g (one ks)) text (a, t.token) more (seq_gives g (one ks) text rest more a t.token r (record { is = t.is }))

-- ---- one token

module _ {A : Type 0} (F : Token → A) (ks : List Class) where
  pub token_fails : (text : List Token) (end : ℕ) (f : ReadFault) → starts text_tokens ks text ≡ false → f ≡ wrong_at end text
      → Stops end (read (made F (one {L = text_tokens} ks)) text) f
  token_fails text end f e w = made_stops F (one ks) text end f (one_fails ks text end f e w)

  pub token_gives : (t : Token) (rest : List Token) → starts text_tokens ks (t ∷ rest) ≡ true
      → Gives (read (made F (one {L = text_tokens} ks)) (t ∷ rest)) (F t) rest
  token_gives t rest e = made_gives F (one ks) (t ∷ rest) t rest (record { is = one_got ks t rest e })

-- ---- what may be missing, and choices

module _ {A : Type 0} (g : Grows A) (ks : List Class) (b : first g ≡ ks) (text : List Token) where
  pub maybe_none : starts text_tokens ks text ≡ false → Gives (read (maybe g) text) None text
  maybe_none e =
      record { is = ap (λ c. choose c (next (read g text) (λ a rest. Got (Some a) rest)) (Got None text)) (ap (λ ls. starts text_tokens ls text) b ∙ e) }

  pub maybe_some : (a : A) (rest : List Token) → starts text_tokens ks text ≡ true → Gives (read g text) a rest → Gives (read (maybe g) text) (Some a) rest
  maybe_some a rest e r =
      record {
        is =
            ap (λ c. choose c (next (read g text) (λ a rest. Got (Some a) rest)) (Got None text)) (ap (λ ls. starts text_tokens ls text) b ∙ e)
            ∙ ap (λ o. next o (λ a rest. Got (Some a) rest)) r.is;
      }

  pub maybe_stops : (end : ℕ) (f : ReadFault) → starts text_tokens ks text ≡ true → Stops end (read g text) f → Stops end (read (maybe g) text) f
  maybe_stops end f e s =
      stops_as end _ _ f (ap (λ c. choose c (next (read g text) (λ a rest. Got (Some a) rest)) (Got None text)) (ap (λ ls. starts text_tokens ls text) b ∙ e))
      (next_stops end (read g text) _ f s)

  pub left_read : (h : Grows A) → starts text_tokens ks text ≡ true → read (either g h) text ≡ read g text
  left_read h e = ap (λ c. choose c (read g text) (read h text)) (ap (λ ls. starts text_tokens ls text) b ∙ e)

  pub right_read : (h : Grows A) → starts text_tokens ks text ≡ false → read (either g h) text ≡ read h text
  right_read h e = ap (λ c. choose c (read g text) (read h text)) (ap (λ ls. starts text_tokens ls text) b ∙ e)

pub gives_as : {A : Type 0} (o p : Outcome Token A) (x : A) (rest : List Token) → o ≡ p → Gives p x rest → Gives o x rest
gives_as o p x rest e r = record { is = e ∙ r.is }
