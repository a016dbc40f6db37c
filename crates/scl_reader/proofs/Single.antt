-- Reading the statements in which no other statement stands.
use Rattle.std.proofs.Common.{◌≡◌, ℕ, true, false, List, [], ◌∷◌, ◌++◌, drop, ◌∙◌, ap}
use Rattle.grammar.specs.Grammar.{one, either, headed}
use Rattle.grammar.specs.Read.{Got, starts, next, choose, read}
use Rattle.sc_text.specs.declared.token.Token.{Token}
use Rattle.sc_text.specs.declared.word.Word.TheVariants as word
use Rattle.sc_text.specs.declared.sign.Sign.TheVariants as sign
use Rattle.sc_text.specs.declared.read_fault.ReadFault.{ReadFault}
use Rattle.sc_text.specs.Classes.{Class, AName, TheWord, TheSign}
use Rattle.sc_text.specs.Expression.{text_tokens, before, expression}
use Rattle.sc_text.specs.Reading.{Stops, Takes, place_of}
use Rattle.sc_text.proofs.Steps.{one_taken, next_stops, stops_as, seq_got, seq_stops_first, seq_stops_second}
use Rattle.sc_text.specs.declared.drafts.parts.Named.{Named}
use Rattle.sc_text.specs.declared.drafts.parts.TextExpression.{TextExpression}
use Rattle.sc_text.specs.DraftParts.{named as named_token, expressed}
use Rattle.scl_reader.specs.declared.text_drafts.statement.TextStatement.TheVariants as open_text
use Rattle.scl_reader.specs.Statements.{Statements, Becomes, IsLabel, named_statement, goto_statement, pause_statement}
use Rattle.scl_reader.specs.Program.{name, semicolon, assigned, labelled, named, goto, pause, simple}
use Rattle.scl_reader.specs.Inside.TextDrafts.{TakesName, TakesValue, Adds, alone}
use Rattle.scl_reader.proofs.Names.{name_got}
use Rattle.scl_reader.proofs.Taking.{after_got, after_stops_before, after_stops, before_got, before_stops, before_stops_behind, adds_as, taken_place}

abbrev becomes : List Class
becomes = TheSign sign.Becomes ∷ []

-- ---- assignments and labels

assigned_read : (text : List Token) → starts text_tokens becomes text ≡ true → read (either (assigned (expression 0)) labelled) text
    ≡ read (assigned (expression 0)) text
unfolding assigned
assigned_read text e = ap (λ b. choose b (read (assigned (expression 0)) text) (read labelled text)) e

labelled_read : (text : List Token) → starts text_tokens becomes text ≡ false → read (either (assigned (expression 0)) labelled) text ≡ read labelled text
unfolding assigned
labelled_read text e = ap (λ b. choose b (read (assigned (expression 0)) text) (read labelled text)) e

module _ (text : List Token) where
  pub name_stops : (end : ℕ) (f : ReadFault) → Stops end (read name text) f → Stops end (read (named (expression 0)) text) f
  unfolding named
  name_stops end f s = seq_stops_first _ name (either (assigned (expression 0)) labelled) end text f s

  module _ (rest : List Token) (called : Named) (t : TakesName text called) (g : rest ≡ drop 1 text) where
    got : read name text ≡ Got t.token rest
    got = name_got text rest called t g

    pub assigned_stops : (more : List Token) (end : ℕ) (f : ReadFault) → starts text_tokens becomes rest ≡ true → more ≡ drop 1 rest
        → Stops end (read (before (headed (expression 0)) semicolon) more) f → Stops end (read (named (expression 0)) text) f
    unfolding named assigned
    assigned_stops more end f e d s =
        seq_stops_second _ name (either (assigned (expression 0)) labelled) end text rest t.token f got
        (stops_as end _ _ f (assigned_read rest e)
        (next_stops end _ _ f (after_stops becomes (before (headed (expression 0)) semicolon) end rest more f (one_taken becomes rest more e d) s)))

    pub assigned_reads : (more end : List Token) (value : TextExpression) (old new : Statements) → starts text_tokens becomes rest ≡ true → more ≡ drop 1 rest
        → TakesValue (read (before (headed (expression 0)) semicolon) more) value end → new ≡ old ++ open_text.Assign called value ∷ []
        → Adds alone (read (named (expression 0)) text) old new end
    unfolding named assigned
    assigned_reads more end value old new e d v b =
        let n = t.means in
        let s = v.means in
        let same : open_text.Assign called value ≡ open_text.Assign (named_token t.token) (expressed (v.head, v.phrase)) = cc in
        record {
          meaning = named_statement t.token (Becomes v.head v.phrase);
          is =
              seq_got _ name (either (assigned (expression 0)) labelled) text rest end t.token (Becomes v.head v.phrase) got
              (assigned_read rest e ∙ ap (λ o. next o (λ x r. Got (Becomes x.0 x.1) r))
              (after_got becomes (before (headed (expression 0)) semicolon) rest more end (v.head, v.phrase) (one_taken becomes rest more e d) v.is));
          behind = b ∙ ap (λ l. old ++ l ∷ []) same;
        }

    pub colon_stops : (end : ℕ) (f : ReadFault) → starts text_tokens becomes rest ≡ false
        → Stops end (read (one {L = text_tokens} (TheSign sign.Colon ∷ [])) rest) f → Stops end (read (named (expression 0)) text) f
    unfolding named labelled
    colon_stops end f e s =
        seq_stops_second _ name (either (assigned (expression 0)) labelled) end text rest t.token f got
        (stops_as end _ _ f (labelled_read rest e) (next_stops end _ _ f s))

    pub labelled_reads : (end : List Token) (old new : Statements) → starts text_tokens becomes rest ≡ false
        → Takes (read (one {L = text_tokens} (TheSign sign.Colon ∷ [])) rest) end → new ≡ old ++ open_text.Label called ∷ []
        → Adds alone (read (named (expression 0)) text) old new end
    unfolding named labelled
    labelled_reads end old new e c b =
        let n = t.means in
        let same : open_text.Label called ≡ open_text.Label (named_token t.token) = cc in
        record {
          meaning = named_statement t.token IsLabel;
          is =
              seq_got _ name (either (assigned (expression 0)) labelled) text rest end t.token IsLabel got
              (labelled_read rest e ∙ ap (λ o. next o (λ x r. Got IsLabel r)) c.is);
          behind = b ∙ ap (λ l. old ++ l ∷ []) same;
        }

-- ---- gotos

abbrev goto_word : List Class
goto_word = TheWord word.Goto ∷ []

module _ (text : List Token) where
  pub goto_stops : (end : ℕ) (f : ReadFault) → Stops end (read (one {L = text_tokens} goto_word) text) f → Stops end (read goto text) f
  unfolding goto
  goto_stops end f s = next_stops end _ _ f (after_stops_before goto_word (before name semicolon) end text f s)

  module _ (target : List Token) (w : Takes (read (one {L = text_tokens} goto_word) text) target) where
    pub target_stops : (end : ℕ) (f : ReadFault) → Stops end (read name target) f → Stops end (read goto text) f
    unfolding goto
    target_stops end f s =
        next_stops end _ _ f (after_stops goto_word (before name semicolon) end text target f w (before_stops semicolon name end target f s))

    module _ (rest : List Token) (called : Named) (t : TakesName target called) (g : rest ≡ drop 1 target) where
      got_target : read name target ≡ Got t.token rest
      got_target = name_got target rest called t g

      pub goto_end_stops : (end : ℕ) (f : ReadFault) → Stops end (read (one {L = text_tokens} semicolon) rest) f → Stops end (read goto text) f
      unfolding goto
      goto_end_stops end f s =
          next_stops end _ _ f (after_stops goto_word (before name semicolon) end text target f w
          (before_stops_behind semicolon name end target rest t.token f got_target s))

      pub goto_reads : (end : List Token) (old new : Statements) → Takes (read (one {L = text_tokens} semicolon) rest) end
          → new ≡ old ++ open_text.Goto called ∷ [] → Adds alone (read goto text) old new end
      unfolding goto
      goto_reads end old new c b =
          let n = t.means in
          let same : open_text.Goto called ≡ open_text.Goto (named_token t.token) = cc in
          record {
            meaning = goto_statement t.token;
            is = ap (λ o. next o (λ x r. Got (goto_statement x) r))
                (after_got goto_word (before name semicolon) text target end t.token w (before_got semicolon name target rest end t.token got_target c));
            behind = b ∙ ap (λ l. old ++ l ∷ []) same;
          }

-- ---- pauses

abbrev pause_word : List Class
pause_word = TheWord word.Pause ∷ []

module _ (text : List Token) where
  pub pause_stops : (end : ℕ) (f : ReadFault) → Stops end (read (one {L = text_tokens} pause_word) text) f → Stops end (read pause text) f
  unfolding pause
  pause_stops end f s = next_stops end _ _ f (before_stops semicolon (one pause_word) end text f s)

  pub pause_end_stops : (rest : List Token) (end : ℕ) (f : ReadFault) → Takes (read (one {L = text_tokens} pause_word) text) rest
      → Stops end (read (one {L = text_tokens} semicolon) rest) f → Stops end (read pause text) f
  unfolding pause
  pause_end_stops rest end f t s = next_stops end _ _ f (before_stops_behind semicolon (one pause_word) end text rest t.token f t.is s)

  pub pause_reads : (at here : ℕ) (rest end : List Token) (old new : Statements) → at ≡ place_of here text
      → Takes (read (one {L = text_tokens} pause_word) text) rest → Takes (read (one {L = text_tokens} semicolon) rest) end
      → new ≡ old ++ open_text.Pause at ∷ [] → Adds alone (read pause text) old new end
  unfolding pause
  pause_reads at here rest end old new p t c b =
      let placed : at ≡ t.token.at = p ∙ taken_place pause_word here text rest t.token t.is in
      record {
        meaning = pause_statement t.token;
        is = ap (λ o. next o (λ x r. Got (pause_statement x) r)) (before_got semicolon (one pause_word) text rest end t.token t.is c);
        behind = b ∙ ap (λ n. old ++ open_text.Pause n ∷ []) placed;
      }

-- ---- any of them

module _ (text : List Token) where
  named_read : starts text_tokens (AName ∷ []) text ≡ true → read (simple (expression 0)) text ≡ read (named (expression 0)) text
  unfolding simple named
  named_read e = ap (λ b. choose b (read (named (expression 0)) text) (read (either goto pause) text)) e

  unnamed_read : starts text_tokens (AName ∷ []) text ≡ false → read (simple (expression 0)) text ≡ read (either goto pause) text
  unfolding simple named
  unnamed_read e = ap (λ b. choose b (read (named (expression 0)) text) (read (either goto pause) text)) e

  goto_read : starts text_tokens (AName ∷ []) text ≡ false → starts text_tokens goto_word text ≡ true → read (simple (expression 0)) text ≡ read goto text
  unfolding goto
  goto_read e g = unnamed_read e ∙ ap (λ b. choose b (read goto text) (read pause text)) g

  pause_read : starts text_tokens (AName ∷ []) text ≡ false → starts text_tokens goto_word text ≡ false → read (simple (expression 0)) text ≡ read pause text
  unfolding goto
  pause_read e g = unnamed_read e ∙ ap (λ b. choose b (read goto text) (read pause text)) g

  pub simple_named_stops : (end : ℕ) (f : ReadFault) → starts text_tokens (AName ∷ []) text ≡ true → Stops end (read (named (expression 0)) text) f
      → Stops end (read (simple (expression 0)) text) f
  simple_named_stops end f e s = stops_as end _ _ f (named_read e) s

  pub simple_named_reads : (rest : List Token) (old new : Statements) → starts text_tokens (AName ∷ []) text ≡ true
      → Adds alone (read (named (expression 0)) text) old new rest → Adds alone (read (simple (expression 0)) text) old new rest
  simple_named_reads rest old new e a = adds_as alone _ _ old new rest (named_read e) a

  pub simple_goto_stops : (end : ℕ) (f : ReadFault) → starts text_tokens (AName ∷ []) text ≡ false → starts text_tokens goto_word text ≡ true
      → Stops end (read goto text) f → Stops end (read (simple (expression 0)) text) f
  simple_goto_stops end f e g s = stops_as end _ _ f (goto_read e g) s

  pub simple_goto_reads : (rest : List Token) (old new : Statements) → starts text_tokens (AName ∷ []) text ≡ false → starts text_tokens goto_word text ≡ true
      → Adds alone (read goto text) old new rest → Adds alone (read (simple (expression 0)) text) old new rest
  simple_goto_reads rest old new e g a = adds_as alone _ _ old new rest (goto_read e g) a

  pub simple_pause_stops : (end : ℕ) (f : ReadFault) → starts text_tokens (AName ∷ []) text ≡ false → starts text_tokens goto_word text ≡ false
      → Stops end (read pause text) f → Stops end (read (simple (expression 0)) text) f
  simple_pause_stops end f e g s = stops_as end _ _ f (pause_read e g) s

  pub simple_pause_reads : (rest : List Token) (old new : Statements) → starts text_tokens (AName ∷ []) text ≡ false → starts text_tokens goto_word text ≡ false
      → Adds alone (read pause text) old new rest → Adds alone (read (simple (expression 0)) text) old new rest
  simple_pause_reads rest old new e g a = adds_as alone _ _ old new rest (pause_read e g) a
