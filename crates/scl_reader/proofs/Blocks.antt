-- Reading statements in braces, and ifs.
use Rattle.std.proofs.Common.{◌≡◌, ℕ, true, false, Some, None, Option, List, [], ◌∷◌, ◌++◌, drop, refl, sym, ◌∙◌, ap}
use Rattle.std.proofs.lemmas.List.{append-nil}
use Rattle.std.specs.List.{flat_map}
use Rattle.grammar.specs.Grammar.{one, seq, maybe, many, headed}
use Rattle.grammar.specs.Read.{Got, starts, next, choose, read}
use Rattle.sc_text.specs.declared.token.Token.{Token}
use Rattle.sc_text.specs.declared.word.Word.TheVariants as word
use Rattle.sc_text.specs.declared.sign.Sign.TheVariants as sign
use Rattle.sc_text.specs.declared.read_fault.ReadFault.{ReadFault}
use Rattle.sc_text.specs.Classes.{Class, TheWord, TheSign}
use Rattle.sc_text.specs.Phrases.{Phrase}
use Rattle.sc_text.specs.Expression.{text_tokens, after, before, expression}
use Rattle.sc_text.specs.Reading.{Stops, Takes, place_of}
use Rattle.sc_text.proofs.Steps.{one_taken, next_stops, stops_as, seq_got, seq_stops_first, seq_stops_second}
use Rattle.sc_text.specs.declared.drafts.parts.TextExpression.{TextExpression}
use Rattle.scl_reader.specs.declared.text_drafts.statement.TextStatement.{TextStatement}
use Rattle.scl_reader.specs.declared.text_drafts.statement.TextStatement.TheVariants as open_text
use Rattle.scl_reader.specs.Statements.{Statements, none_or_them, if_statement}
use Rattle.scl_reader.specs.Program.{Grows, block, test, choice}
use Rattle.scl_reader.specs.Inside.TextDrafts.{TakesValue, Adds, itself, alone}
use Rattle.scl_reader.proofs.Taking.{after_got, after_stops_before, after_stops, before_got, before_stops, before_stops_behind, pair_got, pair_stops_first}
use Rattle.scl_reader.proofs.Taking.{pair_stops_second, taken_place}

abbrev opening : List Class
opening = TheSign sign.OpenBrace ∷ []

abbrev closing : List Class
closing = TheSign sign.CloseBrace ∷ []

abbrev parenthesis : List Class
parenthesis = TheSign sign.OpenParenthesis ∷ []

abbrev if_word : List Class
if_word = TheWord word.If ∷ []

abbrev else_word : List Class
else_word = TheWord word.Else ∷ []

pub each_alone : {A : Type 0} (xs : List A) → flat_map alone xs ≡ xs
each_alone [] = refl
each_alone (x ∷ xs) = ap (λ l. x ∷ l) (each_alone xs)

-- ---- blocks

module _ (s : Grows TextStatement) (text : List Token) where
  pub open_stops : (end : ℕ) (f : ReadFault) → Stops end (read (one {L = text_tokens} opening) text) f → Stops end (read (block s) text) f
  unfolding block
  open_stops end f h = after_stops_before opening (before (many s) closing) end text f h

  module _ (mid : List Token) (t : Takes (read (one {L = text_tokens} opening) text) mid) where
    pub body_stops : (end : ℕ) (f : ReadFault) → Stops end (read (many s) mid) f → Stops end (read (block s) text) f
    unfolding block
    body_stops end f h = after_stops opening (before (many s) closing) end text mid f t (before_stops closing (many s) end mid f h)

    module _ (old new : Statements) (rest : List Token) (a : Adds (flat_map alone) (read (many s) mid) old new rest) where
      pub close_stops : (end : ℕ) (f : ReadFault) → Stops end (read (one {L = text_tokens} closing) rest) f → Stops end (read (block s) text) f
      unfolding block
      close_stops end f h =
          after_stops opening (before (many s) closing) end text mid f t (before_stops_behind closing (many s) end mid rest a.meaning f a.is h)

      pub block_reads : (end : List Token) → Takes (read (one {L = text_tokens} closing) rest) end → Adds itself (read (block s) text) old new end
      unfolding block
      block_reads end c =
          record {
            meaning = a.meaning;
            is = after_got opening (before (many s) closing) text mid end a.meaning t (before_got closing (many s) mid rest end a.meaning a.is c);
            behind = a.behind ∙ ap (λ l. old ++ l) (each_alone a.meaning);
          }

-- ---- tests

module _ (text : List Token) where
  abbrev tested : Grows (Token × Phrase)
  tested = before (headed (expression 0)) (TheSign sign.CloseParenthesis ∷ [])

  pub parenthesis_stops : (end : ℕ) (f : ReadFault) → Stops end (read (one {L = text_tokens} parenthesis) text) f
      → Stops end (read (test (expression 0)) text) f
  unfolding test
  parenthesis_stops end f h = after_stops_before parenthesis tested end text f h

  pub tested_stops : (mid : List Token) (end : ℕ) (f : ReadFault) → Takes (read (one {L = text_tokens} parenthesis) text) mid → Stops end (read tested mid) f
      → Stops end (read (test (expression 0)) text) f
  unfolding test
  tested_stops mid end f t h = after_stops parenthesis tested end text mid f t h

  pub tested_taken : (mid rest : List Token) (value : TextExpression) → Takes (read (one {L = text_tokens} parenthesis) text) mid
      → TakesValue (read tested mid) value rest → TakesValue (read (test (expression 0)) text) value rest
  unfolding test
  tested_taken mid rest value t v =
      record { head = v.head; phrase = v.phrase; is = after_got parenthesis tested text mid rest (v.head, v.phrase) t v.is; means = v.means }

-- ---- what stands behind an else

module _ (s : Grows TextStatement) (text : List Token) where
  abbrev second : Grows Statements
  second = after else_word (block s)

  pub no_else_reads : (old : Statements) → starts text_tokens else_word text ≡ false → Adds none_or_them (read (maybe second) text) old old text
  no_else_reads old e =
      record {
        meaning = None;
        is = ap (λ b. choose b (next (read second text) (λ a rest. Got (Some a) rest)) (Got None text)) e;
        behind = sym (append-nil old);
      }

  else_read : starts text_tokens else_word text ≡ true → read (maybe second) text ≡ next (read second text) (λ a rest. Got (Some a) rest)
  else_read e = ap (λ b. choose b (next (read second text) (λ a rest. Got (Some a) rest)) (Got None text)) e

  pub else_stops : (more : List Token) (end : ℕ) (f : ReadFault) → starts text_tokens else_word text ≡ true → more ≡ drop 1 text
      → Stops end (read (block s) more) f → Stops end (read (maybe second) text) f
  else_stops more end f e d h =
      stops_as end _ _ f (else_read e) (next_stops end _ _ f (after_stops else_word (block s) end text more f (one_taken else_word text more e d) h))

  pub else_reads : (more rest : List Token) (old new : Statements) → starts text_tokens else_word text ≡ true → more ≡ drop 1 text
      → Adds itself (read (block s) more) old new rest → Adds none_or_them (read (maybe second) text) old new rest
  else_reads more rest old new e d a =
      record {
        meaning = Some a.meaning;
        is = else_read e ∙ ap (λ o. next o (λ a rest. Got (Some a) rest))
            (after_got else_word (block s) text more rest a.meaning (one_taken else_word text more e d) a.is);
        behind = a.behind;
      }

-- ---- ifs

abbrev if_of : Token × ((Token × Phrase) × (Statements × Option Statements)) → TextStatement
if_of x = if_statement x.0 x.1.0 x.1.1.0 x.1.1.1

module _ (s : Grows TextStatement) (text : List Token) where
  abbrev lists : Grows (Statements × Option Statements)
  lists = seq (block s) (maybe (after else_word (block s)))

  abbrev behind_word : Grows ((Token × Phrase) × (Statements × Option Statements))
  behind_word = seq (test (expression 0)) lists

  pub if_word_stops : (end : ℕ) (f : ReadFault) → Stops end (read (one {L = text_tokens} if_word) text) f → Stops end (read (choice (expression 0) s) text) f
  unfolding choice
  if_word_stops end f h = seq_stops_first if_of (one if_word) behind_word end text f h

  module _ (mid : List Token) (t : Takes (read (one {L = text_tokens} if_word) text) mid) where
    behind_stops : (end : ℕ) (f : ReadFault) → Stops end (read behind_word mid) f → Stops end (read (choice (expression 0) s) text) f
    unfolding choice
    behind_stops end f h = seq_stops_second if_of (one if_word) behind_word end text mid t.token f t.is h

    pub test_stops : (end : ℕ) (f : ReadFault) → Stops end (read (test (expression 0)) mid) f → Stops end (read (choice (expression 0) s) text) f
    test_stops end f h = behind_stops end f (pair_stops_first (test (expression 0)) lists end mid f h)

    module _ (value : TextExpression) (listed : List Token) (v : TakesValue (read (test (expression 0)) mid) value listed) where
      lists_stop : (end : ℕ) (f : ReadFault) → Stops end (read lists listed) f → Stops end (read (choice (expression 0) s) text) f
      lists_stop end f h =
          behind_stops end f (pair_stops_second (test (expression 0)) lists end mid listed (v.head, v.phrase) f v.is h)

      pub first_stops : (end : ℕ) (f : ReadFault) → Stops end (read (block s) listed) f → Stops end (read (choice (expression 0) s) text) f
      first_stops end f h = lists_stop end f (pair_stops_first (block s) (maybe (after else_word (block s))) end listed f h)

      module _ (old_first first : Statements) (rest : List Token) (c : Adds itself (read (block s) listed) old_first first rest) where
        pub second_stops : (end : ℕ) (f : ReadFault) → Stops end (read (maybe (after else_word (block s))) rest) f
            → Stops end (read (choice (expression 0) s) text) f
        second_stops end f h =
            lists_stop end f (pair_stops_second (block s) (maybe (after else_word (block s))) end listed rest c.meaning f c.is h)

        pub choice_reads : (at here : ℕ) (old_second others old new : Statements) (end : List Token) → at ≡ place_of here text
            → Adds none_or_them (read (maybe (after else_word (block s))) rest) old_second others end → old_first ≡ [] → old_second ≡ []
            → new ≡ old ++ open_text.If at value first others ∷ [] → Adds alone (read (choice (expression 0) s) text) old new end
        unfolding choice
        choice_reads at here old_second others old new end p d e g b =
            let placed : at ≡ t.token.at = p ∙ taken_place if_word here text mid t.token t.is in
            let tests = v.means in
            let firsts : first ≡ c.meaning = c.behind ∙ ap (λ o. o ++ c.meaning) e in
            let seconds : others ≡ none_or_them d.meaning = d.behind ∙ ap (λ o. o ++ none_or_them d.meaning) g in
            let same : open_text.If at value first others ≡ if_statement t.token (v.head, v.phrase) c.meaning d.meaning = cc in
            record {
              meaning = if_statement t.token (v.head, v.phrase) c.meaning d.meaning;
              is =
                  seq_got if_of (one if_word) behind_word text mid end t.token ((v.head, v.phrase), (c.meaning, d.meaning)) t.is
                  (pair_got (test (expression 0)) lists mid listed end (v.head, v.phrase) (c.meaning, d.meaning) v.is
                  (pair_got (block s) (maybe (after else_word (block s))) listed rest end c.meaning d.meaning c.is d.is));
              behind = b ∙ ap (λ x. old ++ x ∷ []) same;
            }
