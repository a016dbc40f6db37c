-- What reading gives for each rule of actions and transitions.
use Rattle.std.proofs.Common.{◌≡◌, ℕ, ◌-◌, Bool, true, false, Option, Some, None, List, [], ◌∷◌, length, drop, refl, sym, subst, ◌∙◌}
use Rattle.std.specs.Prelude.{◌||◌, option_map}
use Rattle.grammar.specs.Grammar.{one, seq, either, maybe, many}
use Rattle.grammar.specs.Read.{starts, read}
use Rattle.sc_text.specs.declared.word.Word.TheVariants as word
use Rattle.sc_text.specs.declared.token.Token.{Token}
use Rattle.sc_text.specs.declared.read_fault.ReadFault.{ReadFault}
use Rattle.sc_text.specs.Classes.{Class, AName, TheWord, class_of, same_class}
use Rattle.sc_text.specs.Phrases.{Phrase}
use Rattle.sc_text.specs.Expression.{text_tokens, after, expression}
use Rattle.sc_text.specs.Reading.{Stops}
use Rattle.sc_text.proofs.Shapes.{expression_is}
use Rattle.sc_text.proofs.Steps.{one_taken, stops_as}
use Rattle.core_charts.specs.declared.region.TransitionKind.{TransitionKind}
use Rattle.sc_text.specs.declared.drafts.parts.Named.{Named}
use Rattle.sc_text.specs.declared.drafts.parts.TextExpression.{TextExpression}
use Rattle.chart_reader.specs.declared.text_drafts.draft.DraftEffect.{DraftEffect}
use Rattle.chart_reader.specs.declared.text_drafts.draft.DraftTransition.{DraftTransition}
use Rattle.chart_reader.specs.Draft.{transition_of}
use Rattle.chart_reader.specs.ChartText.{Grows, the_word, name, flag, placed, moment, tested_words, trigger, transition_first}
use Rattle.chart_reader.specs.Phrase.{Gives}
use Rattle.chart_reader.proofs.Parts.{seq_gives, made_gives, made_stops, maybe_none, maybe_some, maybe_stops, left_read}
use Rattle.chart_reader.proofs.Parts.{right_read, gives_as}
use Rattle.extended_reader.specs.declared.text_drafts.draft.DraftCount.{DraftCount}
use Rattle.extended_reader.specs.declared.text_drafts.draft.DraftDelay.{DraftDelay}
use Rattle.extended_reader.specs.declared.text_drafts.draft.DraftLead.{DraftLead}
use Rattle.extended_reader.specs.declared.text_drafts.draft.DraftWay.{DraftWay}
use Rattle.extended_reader.specs.Draft.{entry_of, count_of, delay_of, hold_of, or_next, way_of, delayed, ended}
use Rattle.extended_reader.specs.ExtendedText.{outcome, last_effects, entry, some_count, counted, some_delay, at_once, waiting, pause}
use Rattle.extended_reader.specs.ExtendedText.{pause_first, tested, termination, transition}
use Rattle.extended_reader.specs.Inside.TextDrafts.{IsPutting, put_way}
use Rattle.extended_reader.proofs.Putting.{put_none}
use Rattle.extended_reader.proofs.Shapes.{some_count_is, at_once_is, either_is, termination_is, transition_is}

abbrev e0 : Grows Phrase
e0 = expression 0

-- ---- actions

pub entry_gives : (text a b c rest : List Token) (i : Bool) (n : Named) (t : Option TextExpression) (d : List DraftEffect)
    → Gives (read (flag word.Immediate) text) i a → Gives (read name a) n b → Gives (read (trigger e0) b) t c
    → Gives (read (after (the_word word.Do) (last_effects e0)) c) d rest → Gives (read (entry e0) text) (entry_of i n t d) rest
unfolding entry
entry_gives text a b c rest i n t d x y z w =
    let outcomes : Grows (List DraftEffect) = after (the_word word.Do) (last_effects e0) in
    made_gives (λ x. entry_of x.0 x.1.0 x.1.1.0 x.1.1.1) (seq (flag word.Immediate) (seq name (seq (trigger e0) outcomes))) text (i, (n, (t, d))) rest
    (seq_gives (flag word.Immediate) (seq name (seq (trigger e0) outcomes)) text a rest i (n, (t, d)) x
    (seq_gives name (seq (trigger e0) outcomes) a b rest n (t, d) y (seq_gives (trigger e0) outcomes b c rest t d z w)))

-- ---- what transitions wait

pub some_count_gives : (text a rest : List Token) (n : Named) (t : TextExpression) → Gives (read name text) n a → Gives (read (placed e0) a) t rest
    → Gives (read (some_count e0) text) (count_of n t) rest
unfolding some_count
some_count_gives text a rest n t x y =
    made_gives (λ x. count_of x.0 x.1) (seq name (placed e0)) text (n, t) rest (seq_gives name (placed e0) text a rest n t x y)

pub count_missing : (text : List Token) → starts text_tokens (AName ∷ []) text ≡ false → Gives (read (counted e0) text) None text
unfolding counted
count_missing text e = maybe_none (some_count e0) (AName ∷ []) (some_count_is e0 (expression_is 0)).begins text e

pub count_there : (text rest : List Token) (c : DraftCount) → starts text_tokens (AName ∷ []) text ≡ true → Gives (read (some_count e0) text) c rest
    → Gives (read (counted e0) text) (Some c) rest
unfolding counted
count_there text rest c e r = maybe_some (some_count e0) (AName ∷ []) (some_count_is e0 (expression_is 0)).begins text c rest e r

pub count_stops : (text : List Token) (end : ℕ) (f : ReadFault) → starts text_tokens (AName ∷ []) text ≡ true
    → Stops end (read (some_count e0) text) f → Stops end (read (counted e0) text) f
unfolding counted
count_stops text end f e s = maybe_stops (some_count e0) (AName ∷ []) (some_count_is e0 (expression_is 0)).begins text end f e s

pub some_delay_gives : (text a b rest : List Token) (n : Named) (t : TextExpression) (c : Option DraftCount) → Gives (read name text) n a
    → Gives (read (placed e0) a) t b → Gives (read (counted e0) b) c rest → Gives (read (some_delay e0) text) (delay_of n t c) rest
unfolding some_delay
some_delay_gives text a b rest n t c x y z =
    made_gives (λ x. delay_of x.0 x.1.0 x.1.1) (seq name (seq (placed e0) (counted e0))) text (n, (t, c)) rest
    (seq_gives name (seq (placed e0) (counted e0)) text a rest n (t, c) x (seq_gives (placed e0) (counted e0) a b rest t c y z))

-- ---- pauses

module _ (k l : Class) where
  abbrev both_of : List Class
  both_of = k ∷ l ∷ []

  in_first : (a b : Bool) → (a || false) ≡ true → (a || (b || false)) ≡ true
  in_first true b e = refl
  in_first false b e = absurd (cc)

  in_second : (a b : Bool) → (b || false) ≡ true → (a || (b || false)) ≡ true
  in_second true b e = refl
  in_second false b e = e

  in_none : (a b : Bool) → (a || false) ≡ false → (b || false) ≡ false → (a || (b || false)) ≡ false
  in_none true b e f = absurd (cc)
  in_none false b e f = f

  starts_first : (text : List Token) → starts text_tokens (k ∷ []) text ≡ true → starts text_tokens both_of text ≡ true
  starts_first [] e = absurd (cc)
  starts_first (t ∷ text) e = in_first (same_class k (class_of t.kind)) (same_class l (class_of t.kind)) e

  starts_second : (text : List Token) → starts text_tokens (l ∷ []) text ≡ true → starts text_tokens both_of text ≡ true
  starts_second [] e = absurd (cc)
  starts_second (t ∷ text) e = in_second (same_class k (class_of t.kind)) (same_class l (class_of t.kind)) e

  starts_none : (text : List Token) → starts text_tokens (k ∷ []) text ≡ false → starts text_tokens (l ∷ []) text ≡ false
      → starts text_tokens both_of text ≡ false
  starts_none [] e f = refl
  starts_none (t ∷ text) e f = in_none (same_class k (class_of t.kind)) (same_class l (class_of t.kind)) e f

abbrev one_pause : Grows (Bool × Option DraftDelay)
one_pause = either at_once (waiting e0)

pub at_once_gives : (text rest : List Token) → starts text_tokens (the_word word.Immediate) text ≡ true → rest ≡ drop 1 text
    → Gives (read (pause e0) text) (true, None) rest
unfolding pause at_once
at_once_gives text rest e d =
    let taken = one_taken (the_word word.Immediate) text rest e d in
    made_gives or_next (maybe one_pause) text (Some (true, None)) rest
    (maybe_some one_pause pause_first (either_is e0 (expression_is 0)).begins text (true, None) rest
    (starts_first (TheWord word.Immediate) AName text e)
    (gives_as _ _ (true, None) rest (left_read at_once (the_word word.Immediate) at_once_is.begins text (waiting e0) e)
    (made_gives (λ t. (true, None)) (one (the_word word.Immediate)) text taken.token rest (record { is = taken.is }))))

pub pause_missing : (text : List Token) → starts text_tokens (the_word word.Immediate) text ≡ false → starts text_tokens (AName ∷ []) text ≡ false
    → Gives (read (pause e0) text) (false, None) text
unfolding pause
pause_missing text e f =
    made_gives or_next (maybe one_pause) text None text
    (maybe_none one_pause pause_first (either_is e0 (expression_is 0)).begins text (starts_none (TheWord word.Immediate) AName text e f))

module _ (text : List Token) (e : starts text_tokens (the_word word.Immediate) text ≡ false) (f : starts text_tokens (AName ∷ []) text ≡ true) where
  is_waiting : read one_pause text ≡ read (waiting e0) text
  is_waiting = right_read at_once (the_word word.Immediate) at_once_is.begins text (waiting e0) e

  pub waiting_gives : (rest : List Token) (d : DraftDelay) → Gives (read (some_delay e0) text) d rest → Gives (read (pause e0) text) (false, Some d) rest
  unfolding pause waiting
  waiting_gives rest d r =
      made_gives or_next (maybe one_pause) text (Some (false, Some d)) rest
      (maybe_some one_pause pause_first (either_is e0 (expression_is 0)).begins text (false, Some d) rest
      (starts_second (TheWord word.Immediate) AName text f)
      (gives_as _ _ (false, Some d) rest is_waiting (made_gives (λ d. (false, Some d)) (some_delay e0) text d rest r)))

  pub waiting_stops : (end : ℕ) (g : ReadFault) → Stops end (read (some_delay e0) text) g → Stops end (read (pause e0) text) g
  unfolding pause waiting
  waiting_stops end g s =
      made_stops or_next (maybe one_pause) text end g
      (maybe_stops one_pause pause_first (either_is e0 (expression_is 0)).begins text end g
      (starts_second (TheWord word.Immediate) AName text f)
      (stops_as end _ _ g is_waiting (made_stops (λ d. (false, Some d)) (some_delay e0) text end g s)))

-- ---- transitions

abbrev triggered : Grows (Option TextExpression × (List DraftEffect × DraftLead))
triggered = seq (trigger e0) (outcome e0)

pub tested_made : (text a b rest : List Token) (m : TransitionKind × ℕ) (w : Bool × Option DraftDelay) (t : Option TextExpression)
    (x : List DraftEffect × DraftLead) → Gives (read (moment tested_words) text) m a → Gives (read (pause e0) a) w b
    → Gives (read triggered b) (t, x) rest → Gives (read (tested e0) text) (delayed m w t x) rest
unfolding tested
tested_made text a b rest m w t x p q r =
    made_gives (λ x. delayed x.0 x.1.0 x.1.1.0 x.1.1.1) (seq (moment tested_words) (seq (pause e0) triggered)) text (m, (w, (t, x))) rest
    (seq_gives (moment tested_words) (seq (pause e0) triggered) text a rest m (w, (t, x)) p (seq_gives (pause e0) triggered a b rest w (t, x) q r))

pub termination_made : (text a rest : List Token) (m : TransitionKind × ℕ) (t : Option TextExpression) (x : List DraftEffect × DraftLead)
    (o : Option DraftDelay) → Gives (read (moment (the_word word.Join)) text) m a → Gives (read triggered a) (t, x) rest
    → o ≡ option_map hold_of t → Gives (read (termination e0) text) (transition_of m false None x.0 x.1.target, way_of o x.1) rest
unfolding termination
termination_made text a rest m t x o p q e =
    subst (λ z. Gives (read (termination e0) text) (transition_of m false None x.0 x.1.target, way_of z x.1) rest) (sym e)
    (made_gives (λ x. ended x.0 x.1.0 x.1.1) (seq (moment (the_word word.Join)) triggered) text (m, (t, x)) rest
    (seq_gives (moment (the_word word.Join)) triggered text a rest m (t, x) p q))

module _ (text : List Token) where
  pub is_termination : starts text_tokens (the_word word.Join) text ≡ true → read (transition e0) text ≡ read (termination e0) text
  unfolding transition
  is_termination e = left_read (termination e0) (the_word word.Join) (termination_is e0 (expression_is 0)).begins text (tested e0) e

  pub is_tested : starts text_tokens (the_word word.Join) text ≡ false → read (transition e0) text ≡ read (tested e0) text
  unfolding transition
  is_tested e = right_read (termination e0) (the_word word.Join) (termination_is e0 (expression_is 0)).begins text (tested e0) e

  pub transitions_put : (most : ℕ) (old : List DraftTransition × List DraftWay) → most ≡ length text
      → IsPutting (read (many (transition e0)) text) (transition e0) transition_first put_way old old (most - 0) text
  transitions_put most old e = put_none put_way (transition e0) transition_first (transition_is e0 (expression_is 0)).begins text most old e
