-- Reading a phrase between tokens: what is got and where it stops.
use Rattle.std.proofs.Common.{◌≡◌, ℕ, Bool, true, false, List, [], ◌∷◌, refl, sym, ◌∙◌, ap, subst}
use Rattle.grammar.specs.Grammar.{one, seq, is_in}
use Rattle.grammar.specs.Read.{Wrong, Deep, Outcome, Got, Failed, next, choose, read}
use Rattle.sc_text.specs.declared.token.Token.{Token}
use Rattle.sc_text.specs.declared.read_fault.ReadFault.{ReadFault}
use Rattle.sc_text.specs.Classes.{Class, class_of}
use Rattle.sc_text.specs.Expression.{text_tokens, after, before}
use Rattle.sc_text.specs.Reading.{Stops, Takes, place_of}
use Rattle.sc_text.proofs.Steps.{next_stops, stops_as, seq_got, seq_stops_first, seq_stops_second}
use Rattle.sc_text.proofs.Nesting.{deep_at}
use Rattle.scl_reader.specs.Program.{Grows}
use Rattle.scl_reader.specs.Inside.TextDrafts.{Adds}

module _ {A : Type 0} (ks : List Class) (g : Grows A) where
  pub after_got : (text mid rest : List Token) (x : A) → Takes (read (one {L = text_tokens} ks) text) mid → read g mid ≡ Got x rest → read (after ks g) text
      ≡ Got x rest
  after_got text mid rest x t e = seq_got _ (one ks) g text mid rest t.token x t.is e

  pub after_stops_before : (end : ℕ) (text : List Token) (f : ReadFault) → Stops end (read (one {L = text_tokens} ks) text) f
      → Stops end (read (after ks g) text) f
  after_stops_before end text f s = seq_stops_first _ (one ks) g end text f s

  pub after_stops : (end : ℕ) (text mid : List Token) (f : ReadFault) → Takes (read (one {L = text_tokens} ks) text) mid → Stops end (read g mid) f
      → Stops end (read (after ks g) text) f
  after_stops end text mid f t s = seq_stops_second _ (one ks) g end text mid t.token f t.is s

  pub before_got : (text mid rest : List Token) (x : A) → read g text ≡ Got x mid → Takes (read (one {L = text_tokens} ks) mid) rest → read (before g ks) text
      ≡ Got x rest
  before_got text mid rest x e t = seq_got _ g (one ks) text mid rest x t.token e t.is

  pub before_stops : (end : ℕ) (text : List Token) (f : ReadFault) → Stops end (read g text) f → Stops end (read (before g ks) text) f
  before_stops end text f s = seq_stops_first _ g (one ks) end text f s

  pub before_stops_behind : (end : ℕ) (text mid : List Token) (x : A) (f : ReadFault) → read g text ≡ Got x mid
      → Stops end (read (one {L = text_tokens} ks) mid) f → Stops end (read (before g ks) text) f
  before_stops_behind end text mid x f e s = seq_stops_second _ g (one ks) end text mid x f e s

abbrev paired : {A B : Type 0} → A → B → A × B
paired a b = (a, b)

-- one phrase behind the other
module _ {A B : Type 0} (g : Grows A) (h : Grows B) where
  pub pair_got : (text mid rest : List Token) (a : A) (b : B) → read g text ≡ Got a mid → read h mid ≡ Got b rest → read (seq g h) text ≡ Got (a, b) rest
  pair_got text mid rest a b e f =
      ap (λ o. next o (λ x r. next (read h r) (λ y end. Got (paired x y) end))) e ∙ ap (λ o. next o (λ y end. Got (paired a y) end)) f

  pub pair_stops_first : (end : ℕ) (text : List Token) (f : ReadFault) → Stops end (read g text) f → Stops end (read (seq g h) text) f
  pair_stops_first end text f s = next_stops end (read g text) _ f s

  pub pair_stops_second : (end : ℕ) (text mid : List Token) (a : A) (f : ReadFault) → read g text ≡ Got a mid → Stops end (read h mid) f
      → Stops end (read (seq g h) text) f
  pair_stops_second end text mid a f e s =
      stops_as end _ _ f (ap (λ o. next o (λ x r. next (read h r) (λ y end. Got (paired x y) end))) e) (next_stops end (read h mid) _ f s)

-- the place of a token that was taken
pub taken_place : (ks : List Class) (end : ℕ) (text rest : List Token) (t : Token) → read (one {L = text_tokens} ks) text ≡ Got t rest → place_of end text
    ≡ t.at
taken_place ks end [] rest t e = absurd cc
taken_place ks end (u ∷ text) rest t e = by_test (is_in text_tokens ks (class_of u.kind)) e
  where
    by_test : (b : Bool) → choose b (Got u text) (Failed Wrong (u ∷ text)) ≡ Got t rest → u.at ≡ t.at
    by_test true h = let same : u ≡ t = cc in ap (λ v. v.at) same
    by_test false h = absurd cc

-- a token that would open one level too many
pub deep_stops : {A : Type 0} (end : ℕ) (o : Outcome Token A) (text : List Token) (f : ReadFault) → o ≡ Failed Deep text → f ≡ deep_at end text → Stops end o f
deep_stops end o text f e w = subst (Stops end o) (sym w) (record { flaw = Deep; rest = text; is = e; breaks = refl; place = refl })

pub adds_as : {A X : Type 0} (gives : A → List X) (o p : Outcome Token A) (old new : List X) (rest : List Token) → o ≡ p → Adds gives p old new rest
    → Adds gives o old new rest
adds_as gives o p old new rest e a = record { meaning = a.meaning; is = e ∙ a.is; behind = a.behind }
