-- Reading a whole program.
use Rattle.std.proofs.Common.{◌≡◌, ℕ, List, [], ◌∷◌, ◌++◌, map, drop, refl, sym, ◌∙◌, ap, subst}
use Rattle.std.specs.List.{flat_map}
use Rattle.grammar.specs.Grammar.{one, seq, many}
use Rattle.grammar.specs.Read.{Wrong, Got, Failed, next, ended, read, read_all}
use Rattle.sc_text.specs.declared.token.Token.{Token}
use Rattle.sc_text.specs.declared.word.Word.TheVariants as word
use Rattle.sc_text.specs.declared.sign.Sign.TheVariants as sign
use Rattle.sc_text.specs.declared.read_fault.ReadFault.{ReadFault}
use Rattle.sc_text.specs.Classes.{Class, TheWord, TheSign}
use Rattle.sc_text.specs.Expression.{text_tokens, after, before}
use Rattle.sc_text.specs.Reading.{Stops, Takes}
use Rattle.sc_text.proofs.Steps.{wrong_at, next_stops, stops_as}
use Rattle.sc_text.specs.declared.drafts.parts.Named.{Named}
use Rattle.sc_text.specs.declared.drafts.parts.Declaration.{Declaration}
use Rattle.scl.specs.Rules.{fork_limit, if_limit}
use Rattle.scl_reader.specs.declared.text_drafts.draft.Draft.{Draft}
use Rattle.scl_reader.specs.Statements.{Statements}
use Rattle.scl_reader.specs.Draft.{declared}
use Rattle.scl_reader.specs.Program.{Grows, Text, name, declaration, program, thread, scl}
use Rattle.scl_reader.specs.Inside.TextDrafts.{TakesName, Adds, AddsBody, Drafts, in_braces, alone, one_declared}
use Rattle.scl_reader.specs.Within.{inner_forks, inner_ifs, within}
use Rattle.scl_reader.proofs.Blocks.{each_alone}
use Rattle.scl_reader.proofs.Declaring.{each_declared}
use Rattle.scl_reader.proofs.Names.{name_got}
use Rattle.scl_reader.proofs.Taking.{after_got, after_stops_before, after_stops, before_got, before_stops, before_stops_behind, pair_got, pair_stops_first}
use Rattle.scl_reader.proofs.Taking.{pair_stops_second}

abbrev opening : List Class
opening = TheSign sign.OpenBrace ∷ []

abbrev closing : List Class
closing = TheSign sign.CloseBrace ∷ []

abbrev scl_word : List Class
scl_word = TheWord word.Scl ∷ []

-- ---- what stands in the braces

abbrev inner : Grows (List (Token × (Token × Token)) × Statements)
inner = seq (many declaration) (many (within fork_limit if_limit))

module _ (text : List Token) where
  pub open_stops : (end : ℕ) (f : ReadFault) → Stops end (read (one {L = text_tokens} opening) text) f → Stops end (read in_braces text) f
  open_stops end f s = after_stops_before opening (before inner closing) end text f s

  module _ (inside : List Token) (o : Takes (read (one {L = text_tokens} opening) text) inside) where
    in_body : (end : ℕ) (f : ReadFault) → Stops end (read (before inner closing) inside) f → Stops end (read in_braces text) f
    in_body end f s = after_stops opening (before inner closing) end text inside f o s

    pub declarations_stop : (end : ℕ) (f : ReadFault) → Stops end (read (many declaration) inside) f → Stops end (read in_braces text) f
    declarations_stop end f s =
        in_body end f (before_stops closing inner end inside f (pair_stops_first (many declaration) (many (within fork_limit if_limit)) end inside f s))

    module _ (old_variables variables : List Declaration) (start : List Token)
        (a : Adds (flat_map one_declared) (read (many declaration) inside) old_variables variables start) where
      pub statements_stop : (end : ℕ) (f : ReadFault) → Stops end (read (many (within fork_limit if_limit)) start) f → Stops end (read in_braces text) f
      statements_stop end f s =
          in_body end f
          (before_stops closing inner end inside f
          (pair_stops_second (many declaration) (many (within fork_limit if_limit)) end inside start a.meaning f a.is s))

      module _ (old_statements statements : Statements) (rest : List Token)
          (c : Adds (flat_map alone) (read (many (within fork_limit if_limit)) start) old_statements statements rest) where
        inner_got : read inner inside ≡ Got (a.meaning, c.meaning) rest
        inner_got =
            pair_got (many declaration) (many (within fork_limit if_limit)) inside start rest a.meaning c.meaning a.is c.is

        pub close_stops : (end : ℕ) (f : ReadFault) → Stops end (read (one {L = text_tokens} closing) rest) f → Stops end (read in_braces text) f
        close_stops end f s = in_body end f (before_stops_behind closing inner end inside rest (a.meaning, c.meaning) f inner_got s)

        pub body_reads : (end : List Token) → Takes (read (one {L = text_tokens} closing) rest) end
            → AddsBody (read in_braces text) old_variables variables old_statements statements end
        body_reads end t =
            record {
              variables_read = a.meaning;
              statements_read = c.meaning;
              is = after_got opening (before inner closing) text inside end (a.meaning, c.meaning) o
                  (before_got closing inner inside rest end (a.meaning, c.meaning) inner_got t);
              variables_behind = a.behind ∙ ap (λ l. old_variables ++ l) (each_declared a.meaning);
              statements_behind = c.behind ∙ ap (λ l. old_statements ++ l) (each_alone c.meaning);
            }

-- ---- a program up to the end of the text

program_is : (text : List Token) → read (scl 0) text ≡ read (after scl_word (seq name in_braces)) text
unfolding scl program thread within inner_forks inner_ifs
program_is text = refl

module _ (text : List Token) where
  ended_stops : (end : ℕ) (f : ReadFault) → Stops end (read (after scl_word (seq name in_braces)) text) f → Stops end (read_all (scl 0) text) f
  ended_stops end f s = next_stops end (read (scl 0) text) ended f (stops_as end _ _ f (program_is text) s)

  pub scl_stops : (end : ℕ) (f : ReadFault) → Stops end (read (one {L = text_tokens} scl_word) text) f → Stops end (read_all (scl 0) text) f
  scl_stops end f s = ended_stops end f (after_stops_before scl_word (seq name in_braces) end text f s)

  module _ (named : List Token) (w : Takes (read (one {L = text_tokens} scl_word) text) named) where
    behind_word : (end : ℕ) (f : ReadFault) → Stops end (read (seq name in_braces) named) f → Stops end (read_all (scl 0) text) f
    behind_word end f s = ended_stops end f (after_stops scl_word (seq name in_braces) end text named f w s)

    pub name_stops : (end : ℕ) (f : ReadFault) → Stops end (read name named) f → Stops end (read_all (scl 0) text) f
    name_stops end f s = behind_word end f (pair_stops_first name in_braces end named f s)

    module _ (called : Named) (n : TakesName named called) (opened : List Token) (g : opened ≡ drop 1 named) where
      got : read name named ≡ Got n.token opened
      got = name_got named opened called n g

      pub body_stops : (end : ℕ) (f : ReadFault) → Stops end (read in_braces opened) f → Stops end (read_all (scl 0) text) f
      body_stops end f s = behind_word end f (pair_stops_second name in_braces end named opened n.token f got s)

      module _ (old_variables variables : List Declaration) (old_statements statements : Statements) (rest : List Token)
          (b : AddsBody (read in_braces opened) old_variables variables old_statements statements rest) where
        abbrev spelled : Text
        spelled = (n.token, (b.variables_read, b.statements_read))

        program_got : read (scl 0) text ≡ Got spelled rest
        program_got =
            program_is text
            ∙ after_got scl_word (seq name in_braces) text named rest spelled w
            (pair_got name in_braces named opened rest n.token (b.variables_read, b.statements_read) got b.is)

        more_wrong : (more : List Token) → more ≡ rest → ¬ (more ≡ []) → read_all (scl 0) text ≡ Failed Wrong more
        more_wrong [] e n = absurd (n refl)
        more_wrong (t ∷ more) e n = ap (λ o. next o ended) (program_got ∙ ap (λ r. Got spelled r) (sym e))

        pub more_stops : (end : ℕ) (f : ReadFault) → ¬ (rest ≡ []) → f ≡ wrong_at end rest → Stops end (read_all (scl 0) text) f
        more_stops end f n w =
            subst (Stops end (read_all (scl 0) text)) (sym w) (record { flaw = Wrong; rest = rest; is = more_wrong rest refl n; breaks = refl; place = refl })

        pub whole_drafts : (draft : Draft) → old_variables ≡ [] → old_statements ≡ [] → rest ≡ []
            → draft ≡ record { name = called.name; declarations = variables; statements = statements } → Drafts (read_all (scl 0) text) draft
        whole_drafts draft no_variables no_statements e d =
            let named_so = n.means in
            let vs : variables ≡ map declared b.variables_read = b.variables_behind ∙ ap (λ o. o ++ map declared b.variables_read) no_variables in
            let ls : statements ≡ b.statements_read = b.statements_behind ∙ ap (λ o. o ++ b.statements_read) no_statements in
            record { program = spelled; is = ap (λ o. next o ended) (program_got ∙ ap (λ r. Got spelled r) e); drafted = cc }
