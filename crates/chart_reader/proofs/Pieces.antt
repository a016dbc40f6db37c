-- What reading gives for each rule of declarations and transitions.
use Rattle.std.proofs.Common.{◌≡◌, ℕ, ◌-◌, Bool, true, false, Option, Some, None, List, [], ◌∷◌, ◌++◌, drop, refl, sym, ◌∙◌, ap}
use Rattle.sc_values.specs.declared.value.Kind.{Kind}
use Rattle.sc_graph.specs.declared.program.Role.{Role}
use Rattle.grammar.specs.Grammar.{one, seq, maybe, spells}
use Rattle.grammar.specs.Read.{Got, starts, next, read, with_head}
use Rattle.grammar.proofs.Shaped.{Shaped}
use Rattle.grammar.proofs.Reading.{Verdict, good, bad, begins_some}
use Rattle.grammar.proofs.Every.{reads}
use Rattle.sc_text.specs.declared.word.Word.{Word}
use Rattle.sc_text.specs.declared.word.Word.TheVariants as word
use Rattle.sc_text.specs.declared.sign.Sign.TheVariants as sign
use Rattle.sc_text.specs.declared.token.Token.{Token}
use Rattle.sc_text.specs.declared.read_fault.ReadFault.{ReadFault}
use Rattle.sc_text.specs.Classes.{Class}
use Rattle.sc_text.specs.Phrases.{Phrase}
use Rattle.sc_text.specs.Expression.{text_tokens, after, expression}
use Rattle.sc_text.specs.Reading.{Stops, Reads, place_of}
use Rattle.sc_text.proofs.Shapes.{expression_is}
use Rattle.sc_text.proofs.Steps.{one_taken, next_stops}
use Rattle.core_charts.specs.declared.region.TransitionKind.{TransitionKind}
use Rattle.sc_text.specs.declared.drafts.parts.Named.{Named}
use Rattle.sc_text.specs.declared.drafts.parts.TextExpression.{TextExpression}
use Rattle.chart_reader.specs.declared.text_drafts.draft.DraftEffect.{DraftEffect}
use Rattle.chart_reader.specs.Draft.{is_there, effect_of, transition_of}
use Rattle.sc_text.specs.DraftParts.{expressed, declared_as}
use Rattle.chart_reader.specs.ChartText.{Grows, the_word, the_sign, declared_role, declared_kind, last_name, name, declaration, flag, placed, effect}
use Rattle.chart_reader.specs.ChartText.{trigger, outcome, moment, termination, tested_words, tested}
use Rattle.chart_reader.specs.ChartText.{transition}
use Rattle.chart_reader.specs.Phrase.{Gives}
use Rattle.chart_reader.proofs.Shapes.{termination_is}
use Rattle.chart_reader.proofs.Parts.{seq_gives, made_gives, after_gives, after_stops_second, maybe_none, maybe_some, maybe_stops, left_read}
use Rattle.chart_reader.proofs.Parts.{right_read}

abbrev e0 : Grows Phrase
e0 = expression 0

-- ---- words that may be missing

pub flag_missing : (w : Word) (text : List Token) → starts text_tokens (the_word w) text ≡ false → Gives (read (flag w) text) false text
unfolding flag
flag_missing w text e =
    made_gives is_there (maybe (one {L = text_tokens} (the_word w))) text None text (maybe_none (one (the_word w)) (the_word w) refl text e)

pub flag_there : (w : Word) (text rest : List Token) → starts text_tokens (the_word w) text ≡ true → rest ≡ drop 1 text → Gives (read (flag w) text) true rest
unfolding flag
flag_there w text rest e d =
    let taken = one_taken (the_word w) text rest e d in
    made_gives is_there (maybe (one {L = text_tokens} (the_word w))) text (Some taken.token) rest
    (maybe_some (one (the_word w)) (the_word w) refl text taken.token rest e (record { is = taken.is }))

-- a word that stands there, and what is behind it
module _ {A : Type 0} (ks : List Class) (g : Grows A) (text more : List Token) (e : starts text_tokens ks text ≡ true) (d : more ≡ drop 1 text) where
  behind_gives : (x : A) (rest : List Token) → Gives (read g more) x rest → Gives (read (maybe (after ks g)) text) (Some x) rest
  behind_gives x rest r =
      maybe_some (after ks g) ks refl text x rest e (after_gives ks g text more rest x (one_taken ks text more e d) r)

  behind_stops : (end : ℕ) (f : ReadFault) → Stops end (read g more) f → Stops end (read (maybe (after ks g)) text) f
  behind_stops end f s = maybe_stops (after ks g) ks refl text end f e (after_stops_second ks g text more end f (one_taken ks text more e d) s)

-- ---- expressions

-- no phrase of what is never void is read from the end of a text
nothing_read : {A : Type 0} (g : Grows A) (opens stops : List Class) → Shaped g false opens stops → (x : A) (rest : List Token) → read g [] ≡ Got x rest → ⊥
nothing_read {A = A} g opens stops h x rest e = by_verdict ((reads g h.predictive).verdict [])
  where
    by_verdict : Verdict (spells g) (read g) [] → ⊥
    by_verdict (good [] more y p s again) =
        let b = begins_some text_tokens A (spells g) (read g) _ _ _ (reads g h.predictive) h.voids [] y s in cc
    by_verdict (good (a ∷ more_front) more y p s again) = cc
    by_verdict (bad [] [] flaw p s again) = let fails = again [] tt in cc
    by_verdict (bad [] (t ∷ ts) flaw p s again) = cc
    by_verdict (bad (a ∷ more_front) more flaw p s again) = cc

pub placed_stops : (text : List Token) (end : ℕ) (f : ReadFault) → Stops end (read e0 text) f → Stops end (read (placed e0) text) f
unfolding placed
placed_stops text end f s = next_stops end _ _ f (next_stops end (read e0 text) _ f s)

placed_read : (text rest : List Token) (p : Phrase) (end : ℕ) → read e0 text ≡ Got p rest → read (placed e0) text
    ≡ Got (record { start = place_of end text; operations = p }) rest
unfolding placed
placed_read [] rest p end e = absurd (nothing_read e0 _ _ (expression_is 0) p rest e)
placed_read (t ∷ text) rest p end e = ap (λ o. next (next o (with_head (t ∷ text))) (λ x r. Got (expressed x) r)) e

pub placed_gives : (text rest : List Token) (start end : ℕ) (old new : Phrase) → start ≡ place_of end text → old ≡ [] → Reads (read e0 text) old new rest
    → Gives (read (placed e0) text) (record { start = start; operations = new }) rest
placed_gives text rest start end old new s o r =
    record {
      is =
          placed_read text rest r.phrase end r.is
          ∙ ap (λ at. Got (record { start = at; operations = r.phrase }) rest) (sym s)
          ∙ ap (λ p. Got (record { start = start; operations = p }) rest) (sym (r.behind ∙ ap (λ l. l ++ r.phrase) o));
    }

-- ---- declarations

pub declaration_gives : (text a b rest : List Token) (r : Role) (k : Kind) (n : Named) → Gives (read declared_role text) r a → Gives (read declared_kind a) k b
    → Gives (read last_name b) n rest → Gives (read declaration text) (declared_as r k n) rest
unfolding declaration
declaration_gives text a b rest r k n x y z =
    made_gives (λ x. declared_as x.0 x.1.0 x.1.1) (seq declared_role (seq declared_kind last_name)) text (r, (k, n)) rest
    (seq_gives declared_role (seq declared_kind last_name) text a rest r (k, n) x (seq_gives declared_kind last_name a b rest k n y z))

-- ---- effects

abbrev becomes : Grows TextExpression
becomes = after (the_sign sign.Becomes) (placed e0)

pub effect_gives : (text a rest : List Token) (n : Named) (e : TextExpression) → Gives (read name text) n a
    → Gives (read (after (the_sign sign.Becomes) (placed e0)) a) e rest → Gives (read (effect e0) text) (effect_of n e) rest
unfolding effect
effect_gives text a rest n e x y =
    made_gives (λ x. effect_of x.0 x.1) (seq name becomes) text (n, e) rest (seq_gives name becomes text a rest n e x y)

-- ---- triggers

pub trigger_missing : (text : List Token) → starts text_tokens (the_word word.If) text ≡ false → Gives (read (trigger e0) text) None text
unfolding trigger
trigger_missing text e = maybe_none (after (the_word word.If) (placed e0)) (the_word word.If) refl text e

pub trigger_there : (text more rest : List Token) (x : TextExpression) → starts text_tokens (the_word word.If) text ≡ true → more ≡ drop 1 text
    → Gives (read (placed e0) more) x rest → Gives (read (trigger e0) text) (Some x) rest
unfolding trigger
trigger_there text more rest x e d r = behind_gives (the_word word.If) (placed e0) text more e d x rest r

pub trigger_stops : (text more : List Token) (end : ℕ) (f : ReadFault) → starts text_tokens (the_word word.If) text ≡ true → more ≡ drop 1 text
    → Stops end (read (placed e0) more) f → Stops end (read (trigger e0) text) f
unfolding trigger
trigger_stops text more end f e d s = behind_stops (the_word word.If) (placed e0) text more e d end f s

-- ---- transitions

pub termination_made : (text a rest : List Token) (m : TransitionKind × ℕ) (d : List DraftEffect × Named) → Gives (read (moment (the_word word.Join)) text) m a
    → Gives (read (outcome e0) a) d rest → Gives (read (termination e0) text) (transition_of m false None d.0 d.1) rest
unfolding termination
termination_made text a rest m d x y =
    made_gives (λ x. transition_of x.0 false None x.1.0 x.1.1) (seq (moment (the_word word.Join)) (outcome e0)) text (m, d) rest
    (seq_gives (moment (the_word word.Join)) (outcome e0) text a rest m d x y)

pub tested_made : (text a b c rest : List Token) (m : TransitionKind × ℕ) (i : Bool) (t : Option TextExpression) (d : List DraftEffect × Named)
    → Gives (read (moment tested_words) text) m a → Gives (read (flag word.Immediate) a) i b → Gives (read (trigger e0) b) t c →
    Gives (read (outcome e0) c) d rest
    → Gives (read (tested e0) text) (transition_of m i t d.0 d.1) rest
unfolding tested
tested_made text a b c rest m i t d w x y z =
    made_gives (λ x. transition_of x.0 x.1.0 x.1.1.0 x.1.1.1.0 x.1.1.1.1)
    (seq (moment tested_words) (seq (flag word.Immediate) (seq (trigger e0) (outcome e0))))
    text (m, (i, (t, d))) rest
    (seq_gives (moment tested_words) (seq (flag word.Immediate) (seq (trigger e0) (outcome e0))) text a rest m (i, (t, d)) w
    (seq_gives (flag word.Immediate) (seq (trigger e0) (outcome e0)) a b rest i (t, d) x (seq_gives (trigger e0) (outcome e0) b c rest t d y z)))

module _ (text : List Token) where
  pub is_termination : starts text_tokens (the_word word.Join) text ≡ true → read (transition e0) text ≡ read (termination e0) text
  unfolding transition
  is_termination e = left_read (termination e0) (the_word word.Join) (termination_is e0 (expression_is 0)).begins text (tested e0) e

  pub is_tested : starts text_tokens (the_word word.Join) text ≡ false → read (transition e0) text ≡ read (tested e0) text
  unfolding transition
  is_tested e = right_read (termination e0) (the_word word.Join) (termination_is e0 (expression_is 0)).begins text (tested e0) e
