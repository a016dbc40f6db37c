-- Reading forks and their branches.
use Rattle.std.proofs.Common.{◌≡◌, ℕ, List, [], ◌∷◌, ◌++◌, map, ◌∙◌, ap}
use Rattle.std.proofs.lemmas.List.Concat.{flat_map_single}
use Rattle.std.specs.List.{flat_map}
use Rattle.grammar.specs.Grammar.{one, seq, many}
use Rattle.grammar.specs.Read.{Got, read}
use Rattle.sc_text.specs.declared.token.Token.{Token}
use Rattle.sc_text.specs.declared.word.Word.{Word}
use Rattle.sc_text.specs.declared.word.Word.TheVariants as word
use Rattle.sc_text.specs.declared.read_fault.ReadFault.{ReadFault}
use Rattle.sc_text.specs.Classes.{Class, TheWord}
use Rattle.sc_text.specs.Expression.{text_tokens, before}
use Rattle.sc_text.specs.Reading.{Stops, Takes, place_of}
use Rattle.sc_text.proofs.Steps.{seq_got, seq_stops_first, seq_stops_second}
use Rattle.scl_reader.specs.declared.text_drafts.statement.TextStatement.{TextStatement}
use Rattle.scl_reader.specs.declared.text_drafts.statement.TextStatement.TheVariants as open_text
use Rattle.scl_reader.specs.Statements.{Statements, branch_of, fork_statement}
use Rattle.scl_reader.specs.Program.{Grows, semicolon, block, branch, fork}
use Rattle.scl_reader.specs.Inside.TextDrafts.{Adds, itself, alone, one_branch}
use Rattle.scl_reader.proofs.Taking.{before_got, before_stops, before_stops_behind, pair_got, pair_stops_first, pair_stops_second, taken_place}

abbrev join_word : List Class
join_word = TheWord word.Join ∷ []

each_branch : (bs : List (Token × Statements)) → flat_map one_branch bs ≡ map branch_of bs
each_branch bs = flat_map_single branch_of bs

-- ---- a branch

module _ (w : Word) (s : Grows TextStatement) (text : List Token) where
  pub opening_stops : (end : ℕ) (f : ReadFault) → Stops end (read (one {L = text_tokens} (TheWord w ∷ [])) text) f → Stops end (read (branch w s) text) f
  unfolding branch
  opening_stops end f h = pair_stops_first (one (TheWord w ∷ [])) (block s) end text f h

  module _ (body : List Token) (t : Takes (read (one {L = text_tokens} (TheWord w ∷ [])) text) body) where
    pub branch_body_stops : (end : ℕ) (f : ReadFault) → Stops end (read (block s) body) f → Stops end (read (branch w s) text) f
    unfolding branch
    branch_body_stops end f h = pair_stops_second (one (TheWord w ∷ [])) (block s) end text body t.token f t.is h

    pub branch_reads : (rest : List Token) (end at : ℕ) (none statements : Statements) (old new : List (ℕ × Statements)) → at ≡ place_of end text
        → Adds itself (read (block s) body) none statements rest → none ≡ [] → new ≡ old ++ (at, statements) ∷ []
        → Adds one_branch (read (branch w s) text) old new rest
    unfolding branch
    branch_reads rest end at none statements old new p a e b =
        let placed : at ≡ t.token.at = p ∙ taken_place (TheWord w ∷ []) end text body t.token t.is in
        let listed : statements ≡ a.meaning = a.behind ∙ ap (λ o. o ++ a.meaning) e in
        record {
          meaning = (t.token, a.meaning);
          is = pair_got (one (TheWord w ∷ [])) (block s) text body rest t.token a.meaning t.is a.is;
          behind = b ∙ ap (λ n. old ++ (n, statements) ∷ []) placed ∙ ap (λ l. old ++ (t.token.at, l) ∷ []) listed;
        }

-- ---- a fork

abbrev fork_of : (Token × Statements) × (List (Token × Statements) × Token) → TextStatement
fork_of x = fork_statement x.0 x.1.0 x.1.1

module _ (s : Grows TextStatement) (text : List Token) where
  abbrev joined : Grows (List (Token × Statements) × Token)
  joined = seq (many (branch word.Par s)) (one join_word)

  abbrev further : Grows (List (Token × Statements) × Token)
  further = before joined semicolon

  pub first_branch_stops : (end : ℕ) (f : ReadFault) → Stops end (read (branch word.Fork s) text) f → Stops end (read (fork s) text) f
  unfolding fork
  first_branch_stops end f h = seq_stops_first fork_of (branch word.Fork s) further end text f h

  module _ (none one_there : List (ℕ × Statements)) (more : List Token) (a : Adds one_branch (read (branch word.Fork s) text) none one_there more) where
    further_stops : (end : ℕ) (f : ReadFault) → Stops end (read further more) f → Stops end (read (fork s) text) f
    unfolding fork
    further_stops end f h = seq_stops_second fork_of (branch word.Fork s) further end text more a.meaning f a.is h

    pub branches_stop : (end : ℕ) (f : ReadFault) → Stops end (read (many (branch word.Par s)) more) f → Stops end (read (fork s) text) f
    branches_stop end f h =
        further_stops end f (before_stops semicolon joined end more f (pair_stops_first (many (branch word.Par s)) (one join_word) end more f h))

    module _ (all : List (ℕ × Statements)) (rest : List Token) (c : Adds (flat_map one_branch) (read (many (branch word.Par s)) more) one_there all rest) where
      pub join_stops : (end : ℕ) (f : ReadFault) → Stops end (read (one {L = text_tokens} join_word) rest) f → Stops end (read (fork s) text) f
      join_stops end f h =
          further_stops end f
          (before_stops semicolon joined end more f
          (pair_stops_second (many (branch word.Par s)) (one join_word) end more rest c.meaning f c.is h))

      module _ (behind : List Token) (j : Takes (read (one {L = text_tokens} join_word) rest) behind) where
        joined_got : read joined more ≡ Got (c.meaning, j.token) behind
        joined_got = pair_got (many (branch word.Par s)) (one join_word) more rest behind c.meaning j.token c.is j.is

        pub join_end_stops : (end : ℕ) (f : ReadFault) → Stops end (read (one {L = text_tokens} semicolon) behind) f → Stops end (read (fork s) text) f
        join_end_stops end f h =
            further_stops end f (before_stops_behind semicolon joined end more behind (c.meaning, j.token) f joined_got h)

        pub fork_reads : (join end : ℕ) (after : List Token) (old new : Statements) → join ≡ place_of end rest
            → Takes (read (one {L = text_tokens} semicolon) behind) after → none ≡ []
            → new ≡ old ++ open_text.Fork all join ∷ [] → Adds alone (read (fork s) text) old new after
        unfolding fork
        fork_reads join end after old new p e z b =
            let placed : join ≡ j.token.at = p ∙ taken_place join_word end rest behind j.token j.is in
            let first : one_there ≡ branch_of a.meaning ∷ [] = a.behind ∙ ap (λ o. o ++ branch_of a.meaning ∷ []) z in
            let whole : all ≡ branch_of a.meaning ∷ map branch_of c.meaning = c.behind ∙ ap (λ o. o ++ flat_map one_branch c.meaning) first
            ∙ ap (λ l. branch_of a.meaning ∷ l) (each_branch c.meaning) in
            record {
              meaning = fork_statement a.meaning c.meaning j.token;
              is =
                  seq_got fork_of (branch word.Fork s) further text more after a.meaning (c.meaning, j.token) a.is
                  (before_got semicolon joined more behind after (c.meaning, j.token) joined_got e);
              behind =
                  b ∙ ap (λ n. old ++ open_text.Fork all n ∷ []) placed ∙ ap (λ x. old ++ open_text.Fork x j.token.at ∷ []) whole;
            }
