-- What reading gives for states and regions, which stand in one another.
use Rattle.std.proofs.Common.{◌≡◌, ℕ, zero, suc, ◌-◌, Bool, true, false, List, [], ◌∷◌, ◌++◌, length, drop, refl, sym, ◌∙◌, ap, subst, arith}
use Rattle.std.proofs.lemmas.List.{append-nil}
use Rattle.grammar.specs.Grammar.{one, seq, many}
use Rattle.grammar.specs.Predictive.{first}
use Rattle.grammar.specs.Read.{Deep, Outcome, Got, Failed, starts, choose, read}
use Rattle.sc_text.specs.declared.word.Word.TheVariants as word
use Rattle.sc_text.specs.declared.sign.Sign.TheVariants as sign
use Rattle.sc_text.specs.declared.token.Token.{Token}
use Rattle.sc_text.specs.declared.read_fault.ReadFault.{ReadFault}
use Rattle.sc_text.specs.Phrases.{Phrase}
use Rattle.sc_text.specs.Expression.{text_tokens, after, before, expression}
use Rattle.sc_text.specs.Reading.{Stops, Takes}
use Rattle.sc_text.proofs.Shapes.{expression_is}
use Rattle.sc_text.proofs.Steps.{one_taken, stops_as}
use Rattle.sc_text.proofs.Nesting.{deep_at}
use Rattle.sc_text.specs.declared.drafts.parts.Named.{Named}
use Rattle.sc_text.specs.declared.drafts.parts.Declaration.{Declaration}
use Rattle.core_charts.specs.Rules.{inner_depth_limit}
use Rattle.chart_reader.specs.declared.text_drafts.draft.DraftTransition.{DraftTransition}
use Rattle.chart_reader.specs.declared.text_drafts.draft.DraftRegion.{DraftRegion}
use Rattle.chart_reader.specs.declared.text_drafts.draft.DraftState.{DraftState}
use Rattle.chart_reader.specs.declared.text_drafts.draft.DraftChart.{DraftChart}
use Rattle.chart_reader.specs.Draft.{state_of, region_of, chart_of}
use Rattle.chart_reader.specs.ChartText.{Grows, the_word, the_sign, name, declaration, flag, leaving, listed, bare, inside, simple, body, state_first, state}
use Rattle.chart_reader.specs.ChartText.{braced, states, region, within, chart, chart_text}
use Rattle.chart_reader.specs.Inside.TextDrafts.{FillsBoth, IsFilling}
use Rattle.chart_reader.specs.PartsRead.{Fills}
use Rattle.chart_reader.specs.Phrase.{Gives}
use Rattle.chart_reader.proofs.Shapes.{nested_is, region_is, state_is, within_fits}
use Rattle.chart_reader.proofs.Parts.{seq_gives, seq_stops_first, seq_stops_second, made_gives, made_stops, after_gives, after_stops_first, after_stops_second}
use Rattle.chart_reader.proofs.Parts.{before_gives, before_stops_first, before_stops_second, left_read, right_read, gives_as}
use Rattle.chart_reader.proofs.Same.{after_read}
use Rattle.chart_reader.proofs.RowReading.{listed_stops}
use Rattle.chart_reader.proofs.Filling.{listed_fills, seq_fills, seq_fills_stops}

abbrev e0 : Grows Phrase
e0 = expression 0

-- what is in a state
abbrev Inside : Type 0
Inside = List DraftRegion × List DraftTransition

-- ---- braces

module _ {A : Type 0} (g : Grows A) (text a : List Token) where
  pub braced_stops_inside : (end : ℕ) (f : ReadFault) → Takes (read (one {L = text_tokens} (the_sign sign.OpenBrace)) text) a → Stops end (read g a) f
      → Stops end (read (braced g) text) f
  braced_stops_inside end f t s =
      after_stops_second (the_sign sign.OpenBrace) (before g (the_sign sign.CloseBrace)) text a end f t
      (before_stops_first (the_sign sign.CloseBrace) g a end f s)

  pub braced_stops_last : (b : List Token) (x : A) (end : ℕ) (f : ReadFault) → Takes (read (one {L = text_tokens} (the_sign sign.OpenBrace)) text) a
      → Gives (read g a) x b → Stops end (read (one {L = text_tokens} (the_sign sign.CloseBrace)) b) f → Stops end (read (braced g) text) f
  braced_stops_last b x end f t r s =
      after_stops_second (the_sign sign.OpenBrace) (before g (the_sign sign.CloseBrace)) text a end f t
      (before_stops_second (the_sign sign.CloseBrace) g a b x end f r s)

  pub braced_gives : (b rest : List Token) (x : A) → Takes (read (one {L = text_tokens} (the_sign sign.OpenBrace)) text) a → Gives (read g a) x b
      → Takes (read (one {L = text_tokens} (the_sign sign.CloseBrace)) b) rest → Gives (read (braced g) text) x rest
  braced_gives b rest x t r u =
      after_gives (the_sign sign.OpenBrace) (before g (the_sign sign.CloseBrace)) text a rest x t (before_gives (the_sign sign.CloseBrace) g a b rest x r u)

module _ {A : Type 0} (g : Grows (List A)) (text a b : List Token) (old new : List A)
    (t : Takes (read (one {L = text_tokens} (the_sign sign.OpenBrace)) text) a) (i : Fills (read g a) old new b) where
  pub braced_fills : (rest : List Token) → Takes (read (one {L = text_tokens} (the_sign sign.CloseBrace)) b) rest → Fills (read (braced g) text) old new rest
  braced_fills rest u = let r = braced_gives g text a b rest i.more t (record { is = i.is }) u in record { more = i.more; is = r.is; behind = i.behind }

  pub braced_fills_stops : (end : ℕ) (f : ReadFault) → Stops end (read (one {L = text_tokens} (the_sign sign.CloseBrace)) b) f
      → Stops end (read (braced g) text) f
  braced_fills_stops end f s = braced_stops_last g text a b i.more end f t (record { is = i.is }) s

module _ {A B : Type 0} (g : Grows (List A × List B)) (text a b : List Token) (old new : List A) (others all : List B)
    (t : Takes (read (one {L = text_tokens} (the_sign sign.OpenBrace)) text) a) (i : FillsBoth (read g a) old new others all b) where
  pub braced_both : (rest : List Token) → Takes (read (one {L = text_tokens} (the_sign sign.CloseBrace)) b) rest
      → FillsBoth (read (braced g) text) old new others all rest
  braced_both rest u =
      let r = braced_gives g text a b rest (i.more, i.beside) t (record { is = i.is }) u in
      record { more = i.more; beside = i.beside; is = r.is; behind = i.behind; beside_behind = i.beside_behind }

  pub braced_both_stops : (end : ℕ) (f : ReadFault) → Stops end (read (one {L = text_tokens} (the_sign sign.CloseBrace)) b) f
      → Stops end (read (braced g) text) f
  braced_both_stops end f s = braced_stops_last g text a b (i.more, i.beside) end f t (record { is = i.is }) s

-- what is put behind nothing is what was read
behind_none : {A : Type 0} (old more new : List A) → new ≡ old ++ more → old ≡ [] → new ≡ more
behind_none old more new b e = b ∙ ap (λ l. l ++ more) e

module _ {A B : Type 0} (o : Outcome Token (List A × List B)) (old new : List A) (others all : List B) (rest : List Token)
    (i : FillsBoth o old new others all rest) where
  both_given : old ≡ [] → others ≡ [] → Gives o (new, all) rest
  both_given e f =
      record {
        is =
            i.is
            ∙ ap (λ l. Got (l, i.beside) rest) (sym (behind_none old i.more new i.behind e))
            ∙ ap (λ l. Got (new, l) rest) (sym (behind_none others i.beside all i.beside_behind f));
      }

-- ---- states

module _ (n : ℕ) (text : List Token) where
  pub state_gives : (a b c rest : List Token) (i f : Bool) (m : Named) (none regions : List DraftRegion) (neither transitions : List DraftTransition)
      → Gives (read (flag word.Initial) text) i a → Gives (read (flag word.Final) a) f b → Gives (read (after (the_word word.State) name) b) m c
      → FillsBoth (read (body e0 (within e0 n)) c) none regions neither transitions rest → none ≡ [] → neither ≡ []
      → Gives (read (state e0 (within e0 n)) text) (state_of i f m (regions, transitions)) rest
  unfolding state
  state_gives a b c rest i f m none regions neither transitions p q r s e g =
      let x : Inside = (regions, transitions) in
      made_gives (λ x. state_of x.0 x.1.0 x.1.1.0 x.1.1.1)
      (seq (flag word.Initial) (seq (flag word.Final) (seq (after (the_word word.State) name) (body e0 (within e0 n))))) text (i, (f, (m, x))) rest
      (seq_gives (flag word.Initial) (seq (flag word.Final) (seq (after (the_word word.State) name) (body e0 (within e0 n)))) text a rest i (f, (m, x)) p
      (seq_gives (flag word.Final) (seq (after (the_word word.State) name) (body e0 (within e0 n))) a b rest f (m, x) q
      (seq_gives (after (the_word word.State) name) (body e0 (within e0 n)) b c rest m x r
      (both_given _ none regions neither transitions rest s e g))))

  pub states_fill : (rest : List Token) (x : DraftState) (most : ℕ) (old found : List DraftState) → Gives (read (state e0 (within e0 n)) text) x rest
      → most ≡ length rest → found ≡ old ++ x ∷ [] → IsFilling (read (states e0 (within e0 n)) text) (state e0 (within e0 n)) state_first old found
      (most - 0) rest
  unfolding states
  states_fill rest x most old found r e f =
      let s = state e0 (within e0 n) in
      listed_fills s state_first (state_is e0 (expression_is 0) (within e0 n) (within_fits e0 (expression_is 0) n)).begins s text rest x most old found r e f

  pub no_first_state : (end : ℕ) (f : ReadFault) → Stops end (read (state e0 (within e0 n)) text) f → Stops end (read (states e0 (within e0 n)) text) f
  unfolding states
  no_first_state end f s = listed_stops (state e0 (within e0 n)) (state e0 (within e0 n)) text end f s

-- ---- regions

module _ (n : ℕ) (text : List Token) where
  pub region_gives : (a rest : List Token) (m : Named) (none xs : List DraftState) → Gives (read (after (the_word word.Region) name) text) m a
      → Fills (read (braced (states e0 (within e0 n))) a) none xs rest → none ≡ [] → Gives (read (region e0 (within e0 n)) text) (region_of m xs) rest
  unfolding region
  region_gives a rest m none xs p q e =
      made_gives (λ x. region_of x.0 x.1) (seq (after (the_word word.Region) name) (braced (states e0 (within e0 n)))) text (m, xs) rest
      (seq_gives (after (the_word word.Region) name) (braced (states e0 (within e0 n))) text a rest m xs p
      (record { is = q.is ∙ ap (λ l. Got l rest) (sym (behind_none none q.more xs q.behind e)) }))

  pub regions_fill : (rest : List Token) (x : DraftRegion) (most : ℕ) (old found : List DraftRegion) → Gives (read (region e0 (within e0 n)) text) x rest
      → most ≡ length rest → found ≡ old ++ x ∷ [] → IsFilling (read (listed (region e0 (within e0 n)) (region e0 (within e0 n))) text)
      (region e0 (within e0 n)) (the_word word.Region) old found (most - 0) rest
  regions_fill rest x most old found r e f =
      let s = region e0 (within e0 n) in
      listed_fills s (the_word word.Region) (region_is e0 (expression_is 0) (within e0 n) (within_fits e0 (expression_is 0) n)).begins s text rest x most old
      found r e f

  pub no_first_region : (end : ℕ) (f : ReadFault) → Stops end (read (region e0 (within e0 n)) text) f
      → Stops end (read (listed (region e0 (within e0 n)) (region e0 (within e0 n))) text) f
  no_first_region end f s = listed_stops (region e0 (within e0 n)) (region e0 (within e0 n)) text end f s

-- ---- what is in a state, or the semicolon where nothing is

module _ (n : ℕ) (text : List Token) where
  is_simple : starts text_tokens (the_sign sign.Semicolon) text ≡ true → read (body e0 (within e0 n)) text ≡ read simple text
  unfolding body
  is_simple e = left_read simple (the_sign sign.Semicolon) refl text (after (the_sign sign.OpenBrace) (inside e0 (within e0 n))) e

  is_braced : starts text_tokens (the_sign sign.Semicolon) text ≡ false → read (body e0 (within e0 n)) text
      ≡ read (after (the_sign sign.OpenBrace) (inside e0 (within e0 n))) text
  unfolding body
  is_braced e = right_read simple (the_sign sign.Semicolon) refl text (after (the_sign sign.OpenBrace) (inside e0 (within e0 n))) e

  pub simple_fills : (rest : List Token) (old : List DraftRegion) (others : List DraftTransition) → starts text_tokens (the_sign sign.Semicolon) text ≡ true
      → rest ≡ drop 1 text → FillsBoth (read (body e0 (within e0 n)) text) old old others others rest
  simple_fills rest old others e d =
      let taken = one_taken (the_sign sign.Semicolon) text rest e d in
      let r = gives_as _ _ ([], []) rest (is_simple e) (made_gives (λ t. ([], [])) (one (the_sign sign.Semicolon)) text taken.token rest
      (record { is = taken.is })) in
      record { more = []; beside = []; is = r.is; behind = sym (append-nil old); beside_behind = sym (append-nil others) }

  pub brace_stops : (end : ℕ) (f : ReadFault) → starts text_tokens (the_sign sign.Semicolon) text ≡ false
      → Stops end (read (one {L = text_tokens} (the_sign sign.OpenBrace)) text) f → Stops end (read (body e0 (within e0 n)) text) f
  brace_stops end f e s = stops_as end _ _ f (is_braced e) (after_stops_first (the_sign sign.OpenBrace) (inside e0 (within e0 n)) text end f s)

  pub inside_read : (a : List Token) → starts text_tokens (the_sign sign.Semicolon) text ≡ false
      → Takes (read (one {L = text_tokens} (the_sign sign.OpenBrace)) text) a → read (body e0 (within e0 n)) text ≡ read (inside e0 (within e0 n)) a
  inside_read a e t = is_braced e ∙ after_read (the_sign sign.OpenBrace) (inside e0 (within e0 n)) text a t

-- ---- the regions and the transitions of a state

one_less : (n : ℕ) → (n ≡ 0 → ⊥) → n ≡ suc (n - 1)
one_less zero z = absurd (z refl)
one_less (suc n) z = omega arith

-- regions, each with so many levels inside
abbrev pub regions_of : ℕ → Grows (List DraftRegion)
regions_of n = listed (region e0 (within e0 n)) (region e0 (within e0 n))

nested_first : (n : ℕ) → first (seq (regions_of n) (leaving e0)) ≡ the_word word.Region
nested_first n = (nested_is e0 (expression_is 0) (region e0 (within e0 n))
    (region_is e0 (expression_is 0) (within e0 n) (within_fits e0 (expression_is 0) n))).begins

module _ (text : List Token) where
  is_bare : (n : ℕ) → starts text_tokens (the_word word.Region) text ≡ false → read (inside e0 (within e0 n)) text ≡ read (bare e0) text
  unfolding inside within
  is_bare zero e = ap (λ b. choose b (Failed Deep text) (read (bare e0) text)) e
  is_bare (suc n) e = right_read (seq (regions_of n) (leaving e0)) (the_word word.Region) (nested_first n) text (bare e0) e

  nested_read : (n : ℕ) → starts text_tokens (the_word word.Region) text ≡ true → read (inside e0 (within e0 (suc n))) text
      ≡ read (seq (regions_of n) (leaving e0)) text
  unfolding inside within
  nested_read n e = left_read (seq (regions_of n) (leaving e0)) (the_word word.Region) (nested_first n) text (bare e0) e

  is_nested : (n : ℕ) → (n ≡ 0 → ⊥) → starts text_tokens (the_word word.Region) text ≡ true → read (inside e0 (within e0 n)) text
      ≡ read (seq (regions_of (n - 1)) (leaving e0)) text
  is_nested n z e = ap (λ m. read (inside e0 (within e0 m)) text) (one_less n z) ∙ nested_read (n - 1) e

  is_deep : starts text_tokens (the_word word.Region) text ≡ true → read (inside e0 (within e0 0)) text ≡ Failed Deep text
  unfolding inside within
  is_deep e = ap (λ b. choose b (Failed Deep text) (read (bare e0) text)) e

  pub bare_fills : (n : ℕ) (rest : List Token) (old : List DraftRegion) (others all : List DraftTransition)
      → starts text_tokens (the_word word.Region) text ≡ false → Fills (read (leaving e0) text) others all rest
      → FillsBoth (read (inside e0 (within e0 n)) text) old old others all rest
  unfolding bare
  bare_fills n rest old others all e i =
      let r = gives_as _ _ ([], i.more) rest (is_bare n e) (made_gives (λ x. ([], x)) (leaving e0) text i.more rest (record { is = i.is })) in
      record { more = []; beside = i.more; is = r.is; behind = sym (append-nil old); beside_behind = i.behind }

  pub bare_stops : (n end : ℕ) (f : ReadFault) → starts text_tokens (the_word word.Region) text ≡ false → Stops end (read (leaving e0) text) f
      → Stops end (read (inside e0 (within e0 n)) text) f
  unfolding bare
  bare_stops n end f e s = stops_as end _ _ f (is_bare n e) (made_stops (λ x. ([], x)) (leaving e0) text end f s)

  pub too_deep_stops : (n end : ℕ) (f : ReadFault) → starts text_tokens (the_word word.Region) text ≡ true → n ≡ 0 → f ≡ deep_at end text
      → Stops end (read (inside e0 (within e0 n)) text) f
  too_deep_stops n end f e z w =
      subst (Stops end (read (inside e0 (within e0 n)) text)) (sym w)
      (record { flaw = Deep; rest = text; is = ap (λ m. read (inside e0 (within e0 m)) text) z ∙ is_deep e; breaks = refl; place = refl })

  pub regions_stop : (n end : ℕ) (f : ReadFault) → starts text_tokens (the_word word.Region) text ≡ true → (n ≡ 0 → ⊥)
      → Stops end (read (regions_of (n - 1)) text) f → Stops end (read (inside e0 (within e0 n)) text) f
  regions_stop n end f e z s = stops_as end _ _ f (is_nested n z e) (seq_stops_first (regions_of (n - 1)) (leaving e0) text end f s)

  module _ (n : ℕ) (a : List Token) (old new : List DraftRegion) (e : starts text_tokens (the_word word.Region) text ≡ true) (z : n ≡ 0 → ⊥)
      (i : Fills (read (regions_of (n - 1)) text) old new a) where
    pub leaving_stops : (end : ℕ) (f : ReadFault) → Stops end (read (leaving e0) a) f → Stops end (read (inside e0 (within e0 n)) text) f
    leaving_stops end f s = stops_as end _ _ f (is_nested n z e) (seq_fills_stops (regions_of (n - 1)) (leaving e0) text a old new i end f s)

    pub nested_fills : (rest : List Token) (others all : List DraftTransition) → Fills (read (leaving e0) a) others all rest
        → FillsBoth (read (inside e0 (within e0 n)) text) old new others all rest
    nested_fills rest others all j =
        let r = seq_fills (regions_of (n - 1)) (leaving e0) text a old new i rest others all j in
        record { more = r.more; beside = r.beside; is = is_nested n z e ∙ r.is; behind = r.behind; beside_behind = r.beside_behind }

-- ---- whole charts

abbrev pub parts : Grows (List Declaration × List DraftRegion)
parts = seq (many declaration) (regions_of inner_depth_limit)

abbrev chart_title : Grows Named
chart_title = after (the_word word.Chart) name

abbrev to_chart : Named × (List Declaration × List DraftRegion) → DraftChart
to_chart x = chart_of x.0 x.1.0 x.1.1

pub chart_gives : (text a rest : List Token) (m : Named) (none variables : List Declaration) (neither regions : List DraftRegion)
    → Gives (read chart_title text) m a → FillsBoth (read (braced parts) a) none variables neither regions rest → none ≡ [] → neither ≡ []
    → Gives (read (chart_text 0) text) (chart_of m variables regions) rest
unfolding chart_text chart
chart_gives text a rest m none variables neither regions p q e f = made_gives to_chart (seq chart_title (braced parts)) text (m, (variables, regions)) rest
    (seq_gives chart_title (braced parts) text a rest m (variables, regions) p (both_given _ none variables neither regions rest q e f))

pub title_stops : (text : List Token) (end : ℕ) (f : ReadFault) → Stops end (read chart_title text) f → Stops end (read (chart_text 0) text) f
unfolding chart_text chart
title_stops text end f s = made_stops to_chart (seq chart_title (braced parts)) text end f (seq_stops_first chart_title (braced parts) text end f s)

pub parts_stop : (text a : List Token) (m : Named) (end : ℕ) (f : ReadFault) → Gives (read chart_title text) m a → Stops end (read (braced parts) a) f
    → Stops end (read (chart_text 0) text) f
unfolding chart_text chart
parts_stop text a m end f r s =
    made_stops to_chart (seq chart_title (braced parts)) text end f (seq_stops_second chart_title (braced parts) text a m end f r s)
