-- Reading phrases that are put behind others: what one round of the loop adds, and where it stops.
use Rattle.std.proofs.Common.{◌≡◌, ℕ, ◌+◌, ◌-◌, ◌≤◌, ◌<◌, true, false, Some, None, List, [], ◌∷◌, ◌++◌, length, drop, refl, sym, ◌∙◌, ap, subst}
use Rattle.std.proofs.lemmas.List.{append_assoc, append-nil}
use Rattle.grammar.specs.Grammar.{one, seq, made, maybe, many}
use Rattle.grammar.specs.Predictive.{first}
use Rattle.grammar.specs.Read.{Outcome, Got, Failed, starts, next, choose, read}
use Rattle.sc_text.specs.declared.token.Token.{Token}
use Rattle.sc_text.specs.declared.read_fault.ReadFault.{ReadFault}
use Rattle.sc_text.specs.Classes.{Class}
use Rattle.sc_text.specs.Expression.{text_tokens, after, before}
use Rattle.sc_text.specs.Reading.{Stops, Takes}
use Rattle.sc_text.proofs.Steps.{one_taken}
use Rattle.sc_text.specs.DraftParts.{or_none}
use Rattle.chart_reader.specs.ChartText.{Grows, listed}
use Rattle.chart_reader.specs.Inside.TextDrafts.{FillsBoth, IsFilling}
use Rattle.chart_reader.specs.PartsRead.{Fills}
use Rattle.chart_reader.specs.Phrase.{Gives}
use Rattle.chart_reader.proofs.Parts.{made_gives, made_stops, maybe_none, seq_gives, seq_stops_second, before_gives, before_stops_second}
use Rattle.chart_reader.proofs.Same.{after_read}
use Rattle.chart_reader.proofs.RowReading.{many_goes, listed_goes, going_ends, going_over, going_stops, going_on}

module _ {A : Type 0} where
  pub fills_given : (o : Outcome Token (List A)) (old new : List A) (rest : List Token) (i : Fills o old new rest) → Gives o i.more rest
  fills_given o old new rest i = record { is = i.is }

  pub fills_alone : (o : Outcome Token (List A)) (none new : List A) (rest : List Token) → Fills o none new rest → none ≡ [] → Gives o new rest
  fills_alone o none new rest i e = record { is = i.is ∙ ap (λ l. Got l rest) (sym (i.behind ∙ ap (λ l. l ++ i.more) e)) }

module _ {A : Type 0} (g : Grows A) where
  pub many_fills : (ks : List Class) → first g ≡ ks → (text : List Token) (most : ℕ) (found : List A) → most ≡ length text
      → IsFilling (read (many g) text) g ks found found (most - 0) text
  many_fills ks b text most found e =
      record { done = []; going = many_goes g ks b text most [] e refl; behind = sym (append-nil found) }

  pub listed_fills : (ks : List Class) → first g ≡ ks → (h : Grows A) (text rest : List Token) (x : A) (most : ℕ) (old found : List A)
      → Gives (read h text) x rest → most ≡ length rest → found ≡ old ++ x ∷ [] → IsFilling (read (listed h g) text) g ks old found (most - 0) rest
  listed_fills ks b h text rest x most old found r e f =
      record { done = x ∷ []; going = listed_goes g ks b h text rest x most [] (x ∷ []) r e refl refl; behind = f }

  module _ (ks : List Class) (o : Outcome Token (List A)) (old found : List A) where
    pub filling_ends : (left : ℕ) (rest : List Token) → IsFilling o g ks old found left rest → starts text_tokens ks rest ≡ false → Fills o old found rest
    filling_ends left rest i e =
        let r = going_ends g ks o i.done left rest i.going e in record { more = i.done; is = r.is; behind = i.behind }

    pub filling_over : (most used : ℕ) (rest : List Token) → most ≤ used → IsFilling o g ks old found (most - used) rest → Fills o old found rest
    filling_over most used rest le i =
        let r = going_over g ks o i.done most used rest le i.going in record { more = i.done; is = r.is; behind = i.behind }

    pub filling_stops : (most used : ℕ) (rest : List Token) (end : ℕ) (f : ReadFault) → used < most → IsFilling o g ks old found (most - used) rest
        → starts text_tokens ks rest ≡ true → Stops end (read g rest) f → Stops end o f
    filling_stops most used rest end f lt i e s = going_stops g ks o i.done most used rest end f lt i.going e s

    pub filling_on : (most used : ℕ) (rest after : List Token) (x : A) (new : List A) → used < most → IsFilling o g ks old found (most - used) rest
        → starts text_tokens ks rest ≡ true → Gives (read g rest) x after → new ≡ found ++ x ∷ [] → IsFilling o g ks old new (most - (used + 1)) after
    filling_on most used rest after x new lt i e r n =
        record {
          done = i.done ++ x ∷ [];
          going = going_on g ks o i.done most used rest after x (i.done ++ x ∷ []) lt i.going e r refl;
          behind = n ∙ ap (λ l. l ++ x ∷ []) i.behind ∙ append_assoc old i.done (x ∷ []);
        }

-- ---- one, and a row behind it

module _ {A : Type 0} (h g : Grows A) (text mid : List Token) (x : A) (old found : List A) (r : Gives (read h text) x mid) where
  pub listed_fill : (new : List A) (rest : List Token) → found ≡ old ++ x ∷ [] → Fills (read (many g) mid) found new rest
      → Fills (read (listed h g) text) old new rest
  listed_fill new rest f i =
      let s = made_gives (λ y. y.0 ∷ y.1) (seq h (many g)) text (x, i.more) rest
      (seq_gives h (many g) text mid rest x i.more r (fills_given _ found new rest i)) in
      record { more = x ∷ i.more; is = s.is; behind = i.behind ∙ ap (λ l. l ++ i.more) f ∙ append_assoc old (x ∷ []) i.more }

  pub listed_further_stops : (end : ℕ) (f : ReadFault) → Stops end (read (many g) mid) f → Stops end (read (listed h g) text) f
  listed_further_stops end f s =
      made_stops (λ y. y.0 ∷ y.1) (seq h (many g)) text end f (seq_stops_second h (many g) text mid x end f r s)

-- ---- some behind a token, or none

there_alone : {A : Type 0} (o : Outcome Token (List A)) → next (next o (λ a end. Got (Some a) end)) (λ x end. Got (or_none x) end) ≡ o
there_alone (Got xs rest) = refl
there_alone (Failed flaw rest) = refl

module _ {A : Type 0} (ks : List Class) (g : Grows (List A)) (text : List Token) where
  pub none_behind : (none : List A) → starts text_tokens ks text ≡ false → none ≡ [] → Gives (read (made or_none (maybe (after ks g))) text) none text
  none_behind none e n =
      subst (λ d. Gives (read (made or_none (maybe (after ks g))) text) d text) (sym n)
      (made_gives or_none (maybe (after ks g)) text None text (maybe_none (after ks g) ks refl text e))

  pub some_behind : (more : List Token) → starts text_tokens ks text ≡ true → more ≡ drop 1 text
      → read (made or_none (maybe (after ks g))) text ≡ read g more
  some_behind more e d =
      ap (λ c. next (choose c (next (read (after ks g) text) (λ a end. Got (Some a) end)) (Got None text)) (λ x end. Got (or_none x) end)) e
      ∙ ap (λ o. next (next o (λ a end. Got (Some a) end)) (λ x end. Got (or_none x) end)) (after_read ks g text more (one_taken ks text more e d))
      ∙ there_alone (read g more)

-- ---- before a token

module _ {A : Type 0} (ks : List Class) (g : Grows (List A)) (text mid : List Token) (old new : List A) (i : Fills (read g text) old new mid) where
  pub before_fills : (rest : List Token) → Takes (read (one {L = text_tokens} ks) mid) rest → Fills (read (before g ks) text) old new rest
  before_fills rest t =
      let r = before_gives ks g text mid rest i.more (fills_given _ old new mid i) t in record { more = i.more; is = r.is; behind = i.behind }

  pub before_fills_stops : (end : ℕ) (f : ReadFault) → Stops end (read (one {L = text_tokens} ks) mid) f → Stops end (read (before g ks) text) f
  before_fills_stops end f s = before_stops_second ks g text mid i.more end f (fills_given _ old new mid i) s

-- ---- one behind the other

module _ {A B : Type 0} (g : Grows (List A)) (h : Grows (List B)) (text mid : List Token) (old new : List A) (i : Fills (read g text) old new mid) where
  pub seq_fills : (rest : List Token) (others all : List B) → Fills (read h mid) others all rest → FillsBoth (read (seq g h) text) old new others all rest
  seq_fills rest others all j =
      let r = seq_gives g h text mid rest i.more j.more (fills_given _ old new mid i) (fills_given _ others all rest j) in
      record { more = i.more; beside = j.more; is = r.is; behind = i.behind; beside_behind = j.behind }

  pub seq_fills_stops : (end : ℕ) (f : ReadFault) → Stops end (read h mid) f → Stops end (read (seq g h) text) f
  seq_fills_stops end f s = seq_stops_second g h text mid i.more end f (fills_given _ old new mid i) s
