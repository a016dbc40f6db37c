-- How reading goes through the parts of a grammar: what is got and where it stops.
use Rattle.std.proofs.Common.{◌≡◌, ℕ, zero, suc, ℤ, pos, negsuc, true, false, Some, None, Result, Ok, Err, List, [], ◌∷◌, ◌++◌, drop, get_or, refl, sym, ◌∙◌}
use Rattle.std.proofs.Common.{ap, subst}
use Rattle.std.specs.Prelude.{MatchResult}
use Rattle.sc_values.specs.declared.divisor.Divisor.{Divisor}
use Rattle.grammar.specs.Grammar.{Grammar, is_in, one, seq, made}
use Rattle.grammar.specs.Read.{Wrong, Outcome, Got, Failed, starts, next, choose, read}
use Rattle.sc_text.specs.declared.token.Token.{Token}
use Rattle.sc_text.specs.declared.operation.TextOperation.{TextOperation}
use Rattle.sc_text.specs.declared.operation.TextOperation.TheVariants as op
use Rattle.sc_text.specs.declared.sign.Sign.TheVariants as sign
use Rattle.sc_text.specs.declared.read_fault.ReadFault.{ReadFault}
use Rattle.sc_text.specs.declared.read_fault.ReadFault.TheVariants as fault
use Rattle.sc_text.specs.declared.token.TokenKind.TheVariants as kind
use Rattle.sc_text.specs.Classes.{Class, Number, TheSign, class_of}
use Rattle.sc_text.specs.Phrases.{leaf_of, divided, division_of}
use Rattle.sc_text.specs.Expression.{text_tokens, leaf, divisor, quotient}
use Rattle.sc_text.specs.Levels.{leaves, divisions, TakesNumber, TakesDivisor}
use Rattle.sc_text.specs.Reading.{Stops, Reads, Takes, broken_by, place_of}

abbrev pub wrong_at : ℕ → List Token → ReadFault
wrong_at end text = fault.Text (broken_by Wrong) (place_of end text)

fails_one : (ks : List Class) (text : List Token) → starts text_tokens ks text ≡ false → read (one {L = text_tokens} ks) text ≡ Failed Wrong text
fails_one ks [] e = refl
fails_one ks (t ∷ text) e = ap (λ b. choose b (Got t text) (Failed Wrong (t ∷ text))) e

-- a token of other classes
pub one_fails : (ks : List Class) (text : List Token) (end : ℕ) (f : ReadFault) → starts text_tokens ks text ≡ false → f ≡ wrong_at end text
    → Stops end (read (one {L = text_tokens} ks) text) f
one_fails ks text end f e w = subst (Stops end (read (one {L = text_tokens} ks) text)) (sym w)
    (record { flaw = Wrong; rest = text; is = fails_one ks text e; breaks = refl; place = refl })

pub one_taken : (ks : List Class) (text rest : List Token) → starts text_tokens ks text ≡ true → rest ≡ drop 1 text
    → Takes (read (one {L = text_tokens} ks) text) rest
one_taken ks [] rest e d = absurd (cc)
one_taken ks (t ∷ text) rest e d =
    record {
      token = t;
      is = subst (λ r. read (one {L = text_tokens} ks) (t ∷ text) ≡ Got t r) (sym d)
          (ap (λ b. choose b (Got t text) (Failed Wrong (t ∷ text))) e);
    }

pub one_got : (ks : List Class) (t : Token) (text : List Token) → starts text_tokens ks (t ∷ text) ≡ true → read (one {L = text_tokens} ks) (t ∷ text)
    ≡ Got t text
one_got ks t text e = ap (λ b. choose b (Got t text) (Failed Wrong (t ∷ text))) e

pub next_stops : {A B : Type 0} (end : ℕ) (o : Outcome Token A) (k : A → List Token → Outcome Token B) (f : ReadFault) → Stops end o f → Stops end (next o k) f
next_stops end o k fault.Memory s = s
next_stops end o k (fault.Text b at) s =
    record { flaw = s.flaw; rest = s.rest; is = ap (λ p. next p k) s.is; breaks = s.breaks; place = s.place }

pub stops_as : {A : Type 0} (end : ℕ) (o p : Outcome Token A) (f : ReadFault) → o ≡ p → Stops end p f → Stops end o f
stops_as end o p f e h = subst (λ q. Stops end q f) (sym e) h

module _ {A B C : Type 0} (F : A × B → C) (g : Grammar text_tokens A) (h : Grammar text_tokens B) where
  pub seq_got : (text rest more : List Token) (a : A) (b : B) → read g text ≡ Got a rest → read h rest ≡ Got b more → read (made F (seq g h)) text
      ≡ Got (F (a, b)) more
  seq_got text rest more a b e f =
      ap (λ o. next (next o (λ a rest. next (read h rest) (λ b end. Got (a, b) end))) (λ x r. Got (F x) r)) e
      ∙ ap (λ o. next (next o (λ b end. Got (a, b) end)) (λ x r. Got (F x) r)) f

  pub seq_stops_first : (end : ℕ) (text : List Token) (f : ReadFault) → Stops end (read g text) f → Stops end (read (made F (seq g h)) text) f
  seq_stops_first end text f s = next_stops end _ _ f (next_stops end (read g text) _ f s)

  pub seq_stops_second : (end : ℕ) (text rest : List Token) (a : A) (f : ReadFault) → read g text ≡ Got a rest → Stops end (read h rest) f
      → Stops end (read (made F (seq g h)) text) f
  seq_stops_second end text rest a f e s =
      stops_as end _ _ f
      (ap (λ o. next (next o (λ a rest. next (read h rest) (λ b end. Got (a, b) end))) (λ x r. Got (F x) r)) e)
      (next_stops end _ _ f (next_stops end (read h rest) _ f s))

-- ---- names, numbers and truth values

pub number_is_leaf : (n : ℤ) → is_in text_tokens leaves (class_of (kind.Number n)) ≡ true
number_is_leaf (pos zero) = refl
number_is_leaf (pos (suc n)) = refl
number_is_leaf (negsuc n) = refl

pub leaf_fails : (text : List Token) (end : ℕ) (f : ReadFault) → starts text_tokens leaves text ≡ false → f ≡ wrong_at end text → Stops end (read leaf text) f
unfolding leaf
leaf_fails text end f e w = next_stops end _ _ f (one_fails leaves text end f e w)

pub leaf_reads : (text rest : List Token) (t d : Token) (old new : List TextOperation) → starts text_tokens leaves text ≡ true → t ≡ get_or text 0 d
    → rest ≡ drop 1 text → new ≡ old ++ leaf_of t.kind t.at ∷ [] → Reads (read leaf text) old new rest
unfolding leaf
leaf_reads [] rest t d old new e g r b = absurd cc
leaf_reads (u ∷ text) rest t d old new e g r b =
    record {
      phrase = leaf_of t.kind t.at ∷ [];
      is = ap (λ o. next o (λ t r. Got (leaf_of t.kind t.at ∷ []) r)) (one_got leaves u text e) ∙ ap (λ v. Got (leaf_of v.kind v.at ∷ []) text) (sym g)
          ∙ ap (λ v. Got (leaf_of t.kind t.at ∷ []) v) (sym r);
      behind = b;
    }

-- ---- divisions

pub map_result : {X E : Type 0} (r : Result X E) (P P' : X → Type 0) (Q Q' : E → Type 0) → ((x : X) → P x → P' x) → ((e : E) → Q e → Q' e) → MatchResult r P Q
    → MatchResult r P' Q'
map_result (Ok x) P P' Q Q' f g h = f x h
map_result (Err e) P P' Q Q' f g h = g e h

module _ (text : List Token) where
  -- no minus stands before the number
  pub plain_stops : (end : ℕ) (f : ReadFault) → starts text_tokens (TheSign sign.Minus ∷ []) text ≡ false
      → Stops end (read (one {L = text_tokens} (Number ∷ [])) text) f → Stops end (read divisor text) f
  unfolding divisor
  plain_stops end f e s =
      stops_as end _ _ f
      (ap (λ b. next (choose b (next (read (one {L = text_tokens} (TheSign sign.Minus ∷ [])) text) (λ a rest. Got (Some a) rest)) (Got None text))
      (λ a rest. next (read (one {L = text_tokens} (Number ∷ [])) rest) (λ b end. Got (a, b) end))) e)
      (next_stops end (read (one {L = text_tokens} (Number ∷ [])) text) _ f s)

  pub plain_takes : (d : Divisor) (rest : List Token) → starts text_tokens (TheSign sign.Minus ∷ []) text ≡ false
      → TakesNumber (read (one {L = text_tokens} (Number ∷ [])) text) false d rest → TakesDivisor (read divisor text) d rest
  unfolding divisor
  plain_takes d rest e h =
      record {
        minus = None;
        token = h.token;
        is =
            ap (λ b. next (choose b (next (read (one {L = text_tokens} (TheSign sign.Minus ∷ [])) text) (λ a rest. Got (Some a) rest)) (Got None text))
            (λ a rest. next (read (one {L = text_tokens} (Number ∷ [])) rest) (λ b end. Got (a, b) end))) e
            ∙ ap (λ o. next o (λ b end. Got (None, b) end)) h.is;
        divides = h.divides;
      }

minus_read : (text more : List Token) → starts text_tokens (TheSign sign.Minus ∷ []) text ≡ true → more ≡ drop 1 text
    → (t : Token) × (read divisor text ≡ next (read (one {L = text_tokens} (Number ∷ [])) more) (λ b end. Got (Some t, b) end))
unfolding divisor
minus_read [] more e r = absurd cc
minus_read (u ∷ text) more e r = (
  u,
  ap (λ b. next (choose b (next (read (one {L = text_tokens} (TheSign sign.Minus ∷ [])) (u ∷ text)) (λ a rest. Got (Some a) rest)) (Got None (u ∷ text)))
      (λ a rest. next (read (one {L = text_tokens} (Number ∷ [])) rest) (λ b end. Got (a, b) end))) e
      ∙ ap (λ o. next (next o (λ a rest. Got (Some a) rest)) (λ a rest. next (read (one {L = text_tokens} (Number ∷ [])) rest) (λ b end. Got (a, b) end)))
      (one_got (TheSign sign.Minus ∷ []) u text e)
      ∙ ap (λ v. next (read (one {L = text_tokens} (Number ∷ [])) v) (λ b end. Got (Some u, b) end)) (sym r),
)

pub minus_stops : (text more : List Token) (end : ℕ) (f : ReadFault) → starts text_tokens (TheSign sign.Minus ∷ []) text ≡ true → more ≡ drop 1 text
    → Stops end (read (one {L = text_tokens} (Number ∷ [])) more) f → Stops end (read divisor text) f
minus_stops text more end f e r s = stops_as end _ _ f (minus_read text more e r).1 (next_stops end _ _ f s)

pub minus_takes : (text more : List Token) (d : Divisor) (rest : List Token) → starts text_tokens (TheSign sign.Minus ∷ []) text ≡ true → more ≡ drop 1 text
    → TakesNumber (read (one {L = text_tokens} (Number ∷ [])) more) true d rest → TakesDivisor (read divisor text) d rest
minus_takes text more d rest e r h =
    let m = minus_read text more e r in
    record { minus = Some m.0; token = h.token; is = m.1 ∙ ap (λ o. next o (λ b end. Got (Some m.0, b) end)) h.is; divides = h.divides }

pub quotient_fails : (text : List Token) (end : ℕ) (f : ReadFault) → starts text_tokens divisions text ≡ false → f ≡ wrong_at end text
    → Stops end (read quotient text) f
unfolding quotient
quotient_fails text end f e w = seq_stops_first _ (one divisions) divisor end text f (one_fails divisions text end f e w)

pub quotient_stops : (text more : List Token) (end : ℕ) (f : ReadFault) → starts text_tokens divisions text ≡ true → more ≡ drop 1 text
    → Stops end (read divisor more) f → Stops end (read quotient text) f
unfolding quotient
quotient_stops text more end f e r s =
    let taken = one_taken divisions text more e r in
    seq_stops_second _ (one divisions) divisor end text more taken.token f taken.is s

pub quotient_reads : (text more rest : List Token) (t d : Token) (by : Divisor) (old new : List TextOperation) → starts text_tokens divisions text ≡ true
    → t ≡ get_or text 0 d → more ≡ drop 1 text → TakesDivisor (read divisor more) by rest → new ≡ old ++ op.Unary (division_of t.kind by) ∷ []
    → Reads (read quotient text) old new rest
unfolding quotient
quotient_reads [] more rest t d by old new e g r h b = absurd cc
quotient_reads (u ∷ text) more rest t d by old new e g r h b =
    let first : read (one {L = text_tokens} divisions) (u ∷ text) ≡ Got t more = one_got divisions u text e ∙ ap (λ v. Got v text) (sym g)
    ∙ ap (λ v. Got t v) (sym r) in
    record {
      phrase = op.Unary (division_of t.kind by) ∷ [];
      is = seq_got _ (one divisions) divisor (u ∷ text) more rest t (h.minus, h.token) first h.is ∙ ap (λ d. Got (divided t d) rest) h.divides;
      behind = b;
    }
