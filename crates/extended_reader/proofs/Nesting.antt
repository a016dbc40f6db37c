-- What reading gives for states and regions, which stand in one another, and for whole extended charts.
use Rattle.std.proofs.Common.{◌≡◌, ℕ, zero, suc, ◌-◌, Bool, true, false, List, [], ◌∷◌, ◌++◌, length, drop, refl, sym, ◌∙◌, ap, subst, arith}
use Rattle.std.proofs.lemmas.List.{append_assoc, append-nil}
use Rattle.grammar.specs.Grammar.{one, seq, many}
use Rattle.grammar.specs.Read.{Deep, Got, Failed, starts, choose, read}
use Rattle.sc_text.specs.declared.word.Word.TheVariants as word
use Rattle.sc_text.specs.declared.sign.Sign.TheVariants as sign
use Rattle.sc_text.specs.declared.token.Token.{Token}
use Rattle.sc_text.specs.declared.read_fault.ReadFault.{ReadFault}
use Rattle.sc_text.specs.Phrases.{Phrase}
use Rattle.sc_text.specs.Expression.{text_tokens, after, expression}
use Rattle.sc_text.specs.Reading.{Stops, Takes}
use Rattle.sc_text.proofs.Shapes.{expression_is}
use Rattle.sc_text.proofs.Steps.{one_taken, stops_as}
use Rattle.sc_text.proofs.Nesting.{deep_at}
use Rattle.sc_text.specs.declared.drafts.parts.Named.{Named}
use Rattle.core_charts.specs.Rules.{inner_depth_limit}
use Rattle.chart_reader.specs.declared.text_drafts.draft.DraftTransition.{DraftTransition}
use Rattle.chart_reader.specs.declared.text_drafts.draft.DraftRegion.{DraftRegion}
use Rattle.chart_reader.specs.declared.text_drafts.draft.DraftState.{DraftState}
use Rattle.chart_reader.specs.ChartText.{Grows, the_word, the_sign, name, flag, listed, braced, state_first}
use Rattle.chart_reader.specs.Phrase.{Gives}
use Rattle.chart_reader.proofs.Parts.{seq_gives, seq_stops_first, seq_stops_second, made_gives, made_stops, after_stops_first}
use Rattle.chart_reader.proofs.Parts.{left_read, right_read, gives_as}
use Rattle.chart_reader.proofs.Nesting.{braced_gives, braced_stops_last}
use Rattle.chart_reader.proofs.RowReading.{listed_stops}
use Rattle.extended_reader.specs.declared.text_drafts.draft.DraftItem.{DraftItem}
use Rattle.extended_reader.specs.declared.text_drafts.draft.DraftEntry.{DraftEntry}
use Rattle.extended_reader.specs.declared.text_drafts.draft.DraftWay.{DraftWay}
use Rattle.extended_reader.specs.declared.text_drafts.draft.StateActions.{StateActions}
use Rattle.extended_reader.specs.declared.text_drafts.draft.DraftRows.{DraftRows}
use Rattle.extended_reader.specs.declared.text_drafts.draft.ExtendedDraft.{ExtendedDraft}
use Rattle.extended_reader.specs.Draft.{no_rows, both_rows, gathered, body_of, actions_of, state_rows, state_with, region_with, draft_of}
use Rattle.chart_reader.specs.Draft.{state_of, region_of}
use Rattle.extended_reader.specs.ExtendedText.{item, entry, leaving, rowed, bare, nested, inside, simple, acting, body, state, region, within, parts, extended}
use Rattle.extended_reader.specs.ExtendedText.{extended_text}
use Rattle.chart_reader.specs.PartsRead.{Fills}
use Rattle.chart_reader.proofs.Filling.{fills_alone}
use Rattle.extended_reader.specs.Inside.TextDrafts.{Puts, IsPutting, InState, put_ways, put_part, put_parts, put_inside, put_body}
use Rattle.extended_reader.proofs.Shapes.{nested_is, region_is, state_is, within_fits}
use Rattle.extended_reader.proofs.Putting.{put_first}
use Rattle.chart_reader.proofs.Same.{after_read}

abbrev pub e0 : Grows Phrase
e0 = expression 0

-- ---- braces

module _ {A S : Type 0} (g : Grows A) (put : A → S → S) (text a b : List Token) (old new : S)
    (t : Takes (read (one {L = text_tokens} (the_sign sign.OpenBrace)) text) a) (p : Puts (read g a) put old new b) where
  pub braced_puts : (rest : List Token) → Takes (read (one {L = text_tokens} (the_sign sign.CloseBrace)) b) rest → Puts (read (braced g) text) put old new rest
  braced_puts rest u =
      let r = braced_gives g text a b rest p.part t (record { is = p.is }) u in record { part = p.part; is = r.is; behind = p.behind }

  pub braced_puts_stops : (end : ℕ) (f : ReadFault) → Stops end (read (one {L = text_tokens} (the_sign sign.CloseBrace)) b) f
      → Stops end (read (braced g) text) f
  braced_puts_stops end f s = braced_stops_last g text a b p.part end f t (record { is = p.is }) s

-- ---- states

module _ (n : ℕ) (text : List Token) where
  pub state_puts : (a b c rest : List Token) (i f : Bool) (m : Named) (none regions : List DraftRegion) (neither transitions : List DraftTransition)
      (old found : List DraftState) (rows all : DraftRows)
      → Gives (read (flag word.Initial) text) i a → Gives (read (flag word.Final) a) f b → Gives (read (after (the_word word.State) name) b) m c
      → Puts (read (body e0 (within e0 n)) c) (put_body f) ((none, neither), rows) ((regions, transitions), all) rest → none ≡ [] → neither ≡ []
      → found ≡ old ++ state_of i f m (regions, transitions) ∷ []
      → Puts (read (state e0 (within e0 n)) text) put_part (old, rows) (found, all) rest
  unfolding state
  state_puts a b c rest i f m none regions neither transitions old found rows all p q r s e g d =
      let x = s.part in
      let both = s.behind in
      let here : regions ≡ x.1.regions = ap (λ z. z.0.0) both ∙ ap (λ l. l ++ x.1.regions) e in
      let there : transitions ≡ x.1.transitions = ap (λ z. z.0.1) both ∙ ap (λ l. l ++ x.1.transitions) g in
      let last : all ≡ both_rows rows (state_rows f x.0 x.1) = ap (λ z. z.1) both in
      let given =
      made_gives (λ x. state_with x.0 x.1.0 x.1.1.0 x.1.1.1)
      (seq (flag word.Initial) (seq (flag word.Final) (seq (after (the_word word.State) name) (body e0 (within e0 n))))) text (i, (f, (m, x))) rest
      (seq_gives (flag word.Initial) (seq (flag word.Final) (seq (after (the_word word.State) name) (body e0 (within e0 n)))) text a rest i (f, (m, x)) p
      (seq_gives (flag word.Final) (seq (after (the_word word.State) name) (body e0 (within e0 n))) a b rest f (m, x) q
      (seq_gives (after (the_word word.State) name) (body e0 (within e0 n)) b c rest m x r (record { is = s.is })))) in
      record {
        part = state_with i f m x;
        is = given.is;
        behind =
            ap (λ l. (l, all)) d
            ∙ ap (λ l. (old ++ state_of i f m (l, transitions) ∷ [], all)) here
            ∙ ap (λ l. (old ++ state_of i f m (x.1.regions, l) ∷ [], all)) there
            ∙ ap (λ l. (old ++ state_of i f m (x.1.regions, x.1.transitions) ∷ [], l)) last;
      }

  pub states_put : (rest : List Token) (most : ℕ) (old sofar : List DraftState × DraftRows)
      → Puts (read (state e0 (within e0 n)) text) put_part old sofar rest → most ≡ length rest
      → IsPutting (read (listed (state e0 (within e0 n)) (state e0 (within e0 n))) text) (state e0 (within e0 n)) state_first put_part old sofar
      (most - 0) rest
  states_put rest most old sofar p e =
      put_first put_part (state e0 (within e0 n)) state_first
      (state_is e0 (expression_is 0) (within e0 n) (within_fits e0 (expression_is 0) n)).begins (state e0 (within e0 n)) text rest most old sofar p e

  pub no_first_state : (end : ℕ) (f : ReadFault) → Stops end (read (state e0 (within e0 n)) text) f
      → Stops end (read (rowed (state e0 (within e0 n))) text) f
  no_first_state end f s =
      made_stops gathered (listed (state e0 (within e0 n)) (state e0 (within e0 n))) text end f
      (listed_stops (state e0 (within e0 n)) (state e0 (within e0 n)) text end f s)

  -- ---- regions

  pub region_puts : (a rest : List Token) (m : Named) (none states : List DraftState) (old found : List DraftRegion) (rows all : DraftRows)
      → Gives (read (after (the_word word.Region) name) text) m a
      → Puts (read (braced (rowed (state e0 (within e0 n)))) a) put_parts (none, rows) (states, all) rest → none ≡ []
      → found ≡ old ++ region_of m states ∷ [] → Puts (read (region e0 (within e0 n)) text) put_part (old, rows) (found, all) rest
  unfolding region
  region_puts a rest m none states old found rows all p q e d =
      let x = q.part in
      let here : states ≡ x.0 = ap (λ z. z.0) q.behind ∙ ap (λ l. l ++ x.0) e in
      let last : all ≡ both_rows rows x.1 = ap (λ z. z.1) q.behind in
      let given =
      made_gives (λ x. region_with x.0 x.1) (seq (after (the_word word.Region) name) (braced (rowed (state e0 (within e0 n))))) text (m, x) rest
      (seq_gives (after (the_word word.Region) name) (braced (rowed (state e0 (within e0 n)))) text a rest m x p (record { is = q.is })) in
      record {
        part = region_with m x;
        is = given.is;
        behind =
            ap (λ l. (l, all)) d
            ∙ ap (λ l. (old ++ region_of m l ∷ [], all)) here
            ∙ ap (λ l. (old ++ region_of m x.0 ∷ [], l)) last;
      }

  pub regions_put : (rest : List Token) (most : ℕ) (old sofar : List DraftRegion × DraftRows)
      → Puts (read (region e0 (within e0 n)) text) put_part old sofar rest → most ≡ length rest
      → IsPutting (read (listed (region e0 (within e0 n)) (region e0 (within e0 n))) text) (region e0 (within e0 n)) (the_word word.Region) put_part old sofar
      (most - 0) rest
  regions_put rest most old sofar p e =
      put_first put_part (region e0 (within e0 n)) (the_word word.Region)
      (region_is e0 (expression_is 0) (within e0 n) (within_fits e0 (expression_is 0) n)).begins (region e0 (within e0 n)) text rest most old sofar p e

  pub no_first_region : (end : ℕ) (f : ReadFault) → Stops end (read (region e0 (within e0 n)) text) f
      → Stops end (read (rowed (region e0 (within e0 n))) text) f
  no_first_region end f s =
      made_stops gathered (listed (region e0 (within e0 n)) (region e0 (within e0 n))) text end f
      (listed_stops (region e0 (within e0 n)) (region e0 (within e0 n)) text end f s)

  -- ---- what is in a state, or the semicolon where nothing is

  is_simple : starts text_tokens (the_sign sign.Semicolon) text ≡ true → read (body e0 (within e0 n)) text ≡ read simple text
  unfolding body
  is_simple e = left_read simple (the_sign sign.Semicolon) refl text (after (the_sign sign.OpenBrace) (acting e0 (within e0 n))) e

  is_braced : starts text_tokens (the_sign sign.Semicolon) text ≡ false → read (body e0 (within e0 n)) text
      ≡ read (after (the_sign sign.OpenBrace) (acting e0 (within e0 n))) text
  unfolding body
  is_braced e = right_read simple (the_sign sign.Semicolon) refl text (after (the_sign sign.OpenBrace) (acting e0 (within e0 n))) e

  pub simple_puts : (rest : List Token) (f : Bool) (none : List DraftEntry) (own : StateActions) (old : InState) (rows : DraftRows)
      → starts text_tokens (the_sign sign.Semicolon) text ≡ true → rest ≡ drop 1 text → none ≡ [] → own ≡ actions_of f none
      → rows ≡ record { entries = old.1.entries ++ own ∷ []; ways = old.1.ways }
      → Puts (read (body e0 (within e0 n)) text) (put_body f) old (old.0, rows) rest
  simple_puts rest f none own old rows e d z y w =
      let taken = one_taken (the_sign sign.Semicolon) text rest e d in
      let given =
      gives_as _ _ ([], body_of ([], no_rows) ([], [])) rest (is_simple e)
      (made_gives (λ t. ([], body_of ([], no_rows) ([], []))) (one (the_sign sign.Semicolon)) text taken.token rest (record { is = taken.is })) in
      record {
        part = ([], body_of ([], no_rows) ([], []));
        is = given.is;
        behind =
            ap (λ l. ((l, old.0.1), rows)) (sym (append-nil old.0.0))
            ∙ ap (λ l. ((old.0.0 ++ [], l), rows)) (sym (append-nil old.0.1))
            ∙ ap (λ r. ((old.0.0 ++ [], old.0.1 ++ []), r)) (w
            ∙ ap (λ a. record { entries = old.1.entries ++ a ∷ []; ways = old.1.ways }) (y ∙ ap (actions_of f) z)
            ∙ ap (λ l. record { entries = old.1.entries ++ actions_of f [] ∷ []; ways = l }) (sym (append-nil old.1.ways)));
      }

  pub brace_stops : (end : ℕ) (f : ReadFault) → starts text_tokens (the_sign sign.Semicolon) text ≡ false
      → Stops end (read (one {L = text_tokens} (the_sign sign.OpenBrace)) text) f → Stops end (read (body e0 (within e0 n)) text) f
  brace_stops end f e s = stops_as end _ _ f (is_braced e) (after_stops_first (the_sign sign.OpenBrace) (acting e0 (within e0 n)) text end f s)

  pub acting_read : (a : List Token) → starts text_tokens (the_sign sign.Semicolon) text ≡ false
      → Takes (read (one {L = text_tokens} (the_sign sign.OpenBrace)) text) a → read (body e0 (within e0 n)) text ≡ read (acting e0 (within e0 n)) a
  acting_read a e t = is_braced e ∙ after_read (the_sign sign.OpenBrace) (acting e0 (within e0 n)) text a t

  -- what is in a state, behind its actions
  pub acting_puts : (a rest : List Token) (f : Bool) (none entries : List DraftEntry) (own : StateActions) (old new : InState) (rows : DraftRows)
      → Fills (read (many (entry e0)) text) none entries a → none ≡ [] → own ≡ actions_of f entries
      → rows ≡ record { entries = old.1.entries ++ own ∷ []; ways = old.1.ways }
      → Puts (read (inside e0 (within e0 n)) a) put_inside (old.0, rows) new rest → Puts (read (acting e0 (within e0 n)) text) (put_body f) old new rest
  unfolding acting
  acting_puts a rest f none entries own old new rows s z y w q =
      let b = q.part in
      let p = fills_alone _ none entries a s z in
      let given = seq_gives (many (entry e0)) (inside e0 (within e0 n)) text a rest entries b p (record { is = q.is }) in
      record {
        part = (entries, b);
        is = given.is;
        behind =
            q.behind
            ∙ ap (λ r. ((old.0.0 ++ b.regions, old.0.1 ++ b.transitions), both_rows r (record { entries = b.rows.entries; ways = b.rows.ways ++ b.ways })))
            (w ∙ ap (λ x. record { entries = old.1.entries ++ x ∷ []; ways = old.1.ways }) y)
            ∙ ap (λ l. ((old.0.0 ++ b.regions, old.0.1 ++ b.transitions), record { entries = l; ways = old.1.ways ++ (b.rows.ways ++ b.ways) }))
            (append_assoc old.1.entries (actions_of f entries ∷ []) b.rows.entries);
      }

  pub inside_stops : (a : List Token) (none entries : List DraftEntry) (end : ℕ) (f : ReadFault) → Fills (read (many (entry e0)) text) none entries a
      → Stops end (read (inside e0 (within e0 n)) a) f → Stops end (read (acting e0 (within e0 n)) text) f
  unfolding acting
  inside_stops a none entries end f p s = seq_stops_second (many (entry e0)) (inside e0 (within e0 n)) text a p.more end f (record { is = p.is }) s

-- ---- the regions and the transitions of a state

one_less : (n : ℕ) → (n ≡ 0 → ⊥) → n ≡ suc (n - 1)
one_less zero z = absurd (z refl)
one_less (suc n) z = omega arith

-- regions, each with so many levels inside
abbrev regions_of : ℕ → Grows (List DraftRegion × DraftRows)
regions_of n = rowed (region e0 (within e0 n))

abbrev Ways : Type 0
Ways = List DraftTransition × List DraftWay

module _ (text : List Token) where
  is_bare : (n : ℕ) → starts text_tokens (the_word word.Region) text ≡ false → read (inside e0 (within e0 n)) text ≡ read (bare e0) text
  unfolding inside within
  is_bare zero e = ap (λ b. choose b (Failed Deep text) (read (bare e0) text)) e
  is_bare (suc n) e =
      right_read (nested e0 (region e0 (within e0 n))) (the_word word.Region)
      (nested_is e0 (expression_is 0) (region e0 (within e0 n)) (region_is e0 (expression_is 0) (within e0 n) (within_fits e0 (expression_is 0) n))).begins
      text (bare e0) e

  nested_read : (n : ℕ) → starts text_tokens (the_word word.Region) text ≡ true → read (inside e0 (within e0 (suc n))) text
      ≡ read (nested e0 (region e0 (within e0 n))) text
  unfolding inside within
  nested_read n e =
      left_read (nested e0 (region e0 (within e0 n))) (the_word word.Region)
      (nested_is e0 (expression_is 0) (region e0 (within e0 n)) (region_is e0 (expression_is 0) (within e0 n) (within_fits e0 (expression_is 0) n))).begins
      text (bare e0) e

  is_nested : (n : ℕ) → (n ≡ 0 → ⊥) → starts text_tokens (the_word word.Region) text ≡ true → read (inside e0 (within e0 n)) text
      ≡ read (nested e0 (region e0 (within e0 (n - 1)))) text
  is_nested n z e = ap (λ m. read (inside e0 (within e0 m)) text) (one_less n z) ∙ nested_read (n - 1) e

  is_deep : starts text_tokens (the_word word.Region) text ≡ true → read (inside e0 (within e0 0)) text ≡ Failed Deep text
  unfolding inside within
  is_deep e = ap (λ b. choose b (Failed Deep text) (read (bare e0) text)) e

  pub bare_puts : (n : ℕ) (rest : List Token) (old : InState) (transitions : List DraftTransition) (ways : List DraftWay) (rows : DraftRows)
      → starts text_tokens (the_word word.Region) text ≡ false → rows ≡ record { entries = old.1.entries; ways = ways }
      → Puts (read (leaving e0) text) put_ways (old.0.1, old.1.ways) (transitions, ways) rest
      → Puts (read (inside e0 (within e0 n)) text) put_inside old ((old.0.0, transitions), rows) rest
  unfolding bare
  bare_puts n rest old transitions ways rows e w p =
      let x = p.part in
      let given = gives_as _ _ (body_of ([], no_rows) x) rest (is_bare n e) (made_gives (λ x. body_of ([], no_rows) x) (leaving e0) text x rest
      (record { is = p.is })) in
      record {
        part = body_of ([], no_rows) x;
        is = given.is;
        behind =
            ap (λ l. ((l, transitions), rows)) (sym (append-nil old.0.0))
            ∙ ap (λ l. ((old.0.0 ++ [], l), rows)) (ap (λ z. z.0) p.behind)
            ∙ ap (λ r. ((old.0.0 ++ [], old.0.1 ++ x.0), r)) (w
            ∙ ap (λ l. record { entries = l; ways = ways }) (sym (append-nil old.1.entries))
            ∙ ap (λ l. record { entries = old.1.entries ++ []; ways = l }) (ap (λ z. z.1) p.behind));
      }

  pub bare_stops : (n end : ℕ) (f : ReadFault) → starts text_tokens (the_word word.Region) text ≡ false → Stops end (read (leaving e0) text) f
      → Stops end (read (inside e0 (within e0 n)) text) f
  unfolding bare
  bare_stops n end f e s = stops_as end _ _ f (is_bare n e) (made_stops (λ x. body_of ([], no_rows) x) (leaving e0) text end f s)

  pub too_deep_stops : (n end : ℕ) (f : ReadFault) → starts text_tokens (the_word word.Region) text ≡ true → n ≡ 0 → f ≡ deep_at end text
      → Stops end (read (inside e0 (within e0 n)) text) f
  too_deep_stops n end f e z w =
      subst (Stops end (read (inside e0 (within e0 n)) text)) (sym w)
      (record { flaw = Deep; rest = text; is = ap (λ m. read (inside e0 (within e0 m)) text) z ∙ is_deep e; breaks = refl; place = refl })

  pub regions_stop : (n end : ℕ) (f : ReadFault) → starts text_tokens (the_word word.Region) text ≡ true → (n ≡ 0 → ⊥)
      → Stops end (read (regions_of (n - 1)) text) f → Stops end (read (inside e0 (within e0 n)) text) f
  unfolding nested
  regions_stop n end f e z s =
      stops_as end _ _ f (is_nested n z e)
      (made_stops (λ x. body_of x.0 x.1) (seq (regions_of (n - 1)) (leaving e0)) text end f
      (seq_stops_first (regions_of (n - 1)) (leaving e0) text end f s))

  module _ (n : ℕ) (a : List Token) (old mid : List DraftRegion × DraftRows) (e : starts text_tokens (the_word word.Region) text ≡ true) (z : n ≡ 0 → ⊥)
      (p : Puts (read (regions_of (n - 1)) text) put_parts old mid a) where
    pub leaving_stops : (end : ℕ) (f : ReadFault) → Stops end (read (leaving e0) a) f → Stops end (read (inside e0 (within e0 n)) text) f
    unfolding nested
    leaving_stops end f s =
        stops_as end _ _ f (is_nested n z e)
        (made_stops (λ x. body_of x.0 x.1) (seq (regions_of (n - 1)) (leaving e0)) text end f
        (seq_stops_second (regions_of (n - 1)) (leaving e0) text a p.part end f (record { is = p.is }) s))

    pub nested_puts : (rest : List Token) (others transitions : List DraftTransition) (ways : List DraftWay) (rows : DraftRows)
        → Puts (read (leaving e0) a) put_ways (others, mid.1.ways) (transitions, ways) rest → rows ≡ record { entries = mid.1.entries; ways = ways }
        → Puts (read (inside e0 (within e0 n)) text) put_inside ((old.0, others), old.1) ((mid.0, transitions), rows) rest
    unfolding nested
    nested_puts rest others transitions ways rows q w =
        let x = p.part in
        let y = q.part in
        let given =
        gives_as _ _ (body_of x y) rest (is_nested n z e)
        (made_gives (λ x. body_of x.0 x.1) (seq (regions_of (n - 1)) (leaving e0)) text (x, y) rest
        (seq_gives (regions_of (n - 1)) (leaving e0) text a rest x y (record { is = p.is }) (record { is = q.is }))) in
        let first : mid.0 ≡ old.0 ++ x.0 = ap (λ z. z.0) p.behind in
        let second : mid.1 ≡ both_rows old.1 x.1 = ap (λ z. z.1) p.behind in
        let third : transitions ≡ others ++ y.0 = ap (λ z. z.0) q.behind in
        let last : ways ≡ mid.1.ways ++ y.1 = ap (λ z. z.1) q.behind in
        record {
          part = body_of x y;
          is = given.is;
          behind =
              ap (λ l. ((l, transitions), rows)) first
              ∙ ap (λ l. ((old.0 ++ x.0, l), rows)) third
              ∙ ap (λ r. ((old.0 ++ x.0, others ++ y.0), r)) (w
              ∙ ap (λ l. record { entries = mid.1.entries; ways = l }) last
              ∙ ap (λ r. record { entries = r.entries; ways = r.ways ++ y.1 }) second
              ∙ ap (λ l. record { entries = old.1.entries ++ x.1.entries; ways = l }) (append_assoc old.1.ways x.1.ways y.1));
        }

-- ---- whole extended charts

abbrev pub Parts : Type 0
Parts = List DraftItem × (List DraftRegion × DraftRows)

abbrev pub chart_of : Grows (Named × Parts)
chart_of = seq (after (the_word word.Chart) name) (braced (parts e0 (within e0 inner_depth_limit)))

-- items, and the regions that are put behind none
pub items_stop : (text : List Token) (end : ℕ) (f : ReadFault) → Stops end (read (many (item e0)) text) f
    → Stops end (read (parts e0 (within e0 inner_depth_limit)) text) f
unfolding parts
items_stop text end f s = seq_stops_first (many (item e0)) (regions_of inner_depth_limit) text end f s

pub parts_stop : (text a : List Token) (nothing items : List DraftItem) (end : ℕ) (f : ReadFault)
    → Fills (read (many (item e0)) text) nothing items a → Stops end (read (regions_of inner_depth_limit) a) f
    → Stops end (read (parts e0 (within e0 inner_depth_limit)) text) f
unfolding parts
parts_stop text a nothing items end f p s =
    seq_stops_second (many (item e0)) (regions_of inner_depth_limit) text a p.more end f (record { is = p.is }) s

pub parts_give : (text a rest : List Token) (nothing items : List DraftItem) (none regions : List DraftRegion) (empty rows : DraftRows)
    → Fills (read (many (item e0)) text) nothing items a → nothing ≡ []
    → Puts (read (regions_of inner_depth_limit) a) put_parts (none, empty) (regions, rows) rest → none ≡ []
    → empty ≡ no_rows → Gives (read (parts e0 (within e0 inner_depth_limit)) text) (items, (regions, rows)) rest
unfolding parts
parts_give text a rest nothing items none regions empty rows p g q e f =
    let x = q.part in
    let here : regions ≡ x.0 = ap (λ z. z.0) q.behind ∙ ap (λ l. l ++ x.0) e in
    let there : rows ≡ x.1 = ap (λ z. z.1) q.behind ∙ ap (λ r. both_rows r x.1) f in
    let is : read (regions_of inner_depth_limit) a ≡ Got (regions, rows) rest =
    q.is ∙ ap (λ l. Got (l, x.1) rest) (sym here) ∙ ap (λ l. Got (regions, l) rest) (sym there) in
    seq_gives (many (item e0)) (regions_of inner_depth_limit) text a rest items (regions, rows) (fills_alone _ nothing items a p g) (record { is = is })

abbrev to_draft : Named × (Named × Parts) → ExtendedDraft
to_draft x = draft_of x.0 x.1.0 x.1.1

pub extended_gives : (text a rest : List Token) (w : Named) (c : Named × Parts) (d : ExtendedDraft) → Gives (read name text) w a
    → Gives (read chart_of a) c rest → d ≡ draft_of w c.0 c.1 → Gives (read (extended_text 0) text) d rest
unfolding extended_text extended
extended_gives text a rest w c d p q e =
    subst (λ x. Gives (read (extended_text 0) text) x rest) (sym e)
    (made_gives to_draft (seq name chart_of) text (w, c) rest (seq_gives name chart_of text a rest w c p q))

pub word_stops : (text : List Token) (end : ℕ) (f : ReadFault) → Stops end (read name text) f → Stops end (read (extended_text 0) text) f
unfolding extended_text extended
word_stops text end f s = made_stops to_draft (seq name chart_of) text end f (seq_stops_first name chart_of text end f s)

pub chart_stops : (text a : List Token) (w : Named) (end : ℕ) (f : ReadFault) → Gives (read name text) w a → Stops end (read chart_of a) f
    → Stops end (read (extended_text 0) text) f
unfolding extended_text extended
chart_stops text a w end f r s = made_stops to_draft (seq name chart_of) text end f (seq_stops_second name chart_of text a w end f r s)
