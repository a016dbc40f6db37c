-- Reading many phrases: what one round of the loop over them adds, and where it stops.
use Rattle.std.proofs.Common.{◌≡◌, ℕ, zero, suc, ◌<◌, Bool, true, false, List, [], ◌∷◌, ◌++◌, length, refl, sym, ◌∙◌, ap, subst, arith}
use Rattle.std.proofs.lemmas.List.{append_assoc, append-nil}
use Rattle.std.proofs.lemmas.Grind.{flat_map-append}
use Rattle.std.specs.List.{flat_map}
use Rattle.grammar.specs.Grammar.{many}
use Rattle.grammar.specs.Predictive.{first}
use Rattle.grammar.specs.Read.{Outcome, Got, Failed, starts, next, choose, read_each, read}
use Rattle.sc_text.specs.declared.word.Word.TheVariants as word
use Rattle.sc_text.specs.declared.token.Token.{Token}
use Rattle.sc_text.specs.declared.read_fault.ReadFault.{ReadFault}
use Rattle.sc_text.specs.Classes.{Class, TheWord}
use Rattle.sc_text.specs.Expression.{text_tokens, expression}
use Rattle.sc_text.specs.Reading.{Stops}
use Rattle.sc_text.proofs.Shapes.{expression_is}
use Rattle.sc_text.proofs.Steps.{next_stops, stops_as}
use Rattle.scl.specs.Rules.{if_limit}
use Rattle.scl_reader.specs.declared.text_drafts.statement.TextStatement.{TextStatement}
use Rattle.scl_reader.specs.Statements.{Statements}
use Rattle.scl_reader.specs.Program.{Grows, branch}
use Rattle.scl_reader.specs.Inside.TextDrafts.{Adds, IsGoing, alone, one_branch, statement_classes}
use Rattle.scl_reader.specs.Within.{inner_forks, inner_ifs, within}
use Rattle.scl_reader.proofs.Shapes.{statement_is, forks_fit, ifs_fit}

none_done : {A : Type 0} (o : Outcome Token (List A)) → o ≡ next o (λ xs end. Got ([] ++ xs) end)
none_done (Got xs rest) = refl
none_done (Failed flaw rest) = refl

more_done : {A : Type 0} (done : List A) (x : A) (r : Outcome Token (List A)) → next (next r (λ xs end. Got (x ∷ xs) end)) (λ xs end. Got (done ++ xs) end)
    ≡ next r (λ xs end. Got ((done ++ x ∷ []) ++ xs) end)
more_done done x (Got xs rest) = ap (λ d. Got d rest) (sym (append_assoc done (x ∷ []) xs))
more_done done x (Failed flaw rest) = refl

module _ {A X : Type 0} (g : Grows A) (gives : A → List X) where
  abbrev begins : List Token → Bool
  begins = starts text_tokens (first g)

  ends_each : (left : ℕ) (rest : List Token) → begins rest ≡ false → read_each begins (read g) left rest ≡ Got [] rest
  ends_each zero rest e = refl
  ends_each (suc n) rest e =
      ap (λ b. choose b (next (read g rest) (λ x r. next (read_each begins (read g) n r) (λ xs end. Got (x ∷ xs) end))) (Got [] rest)) e

  pub going_first : (text : List Token) (left : ℕ) (items : List X) → left ≡ length text → IsGoing g gives (read (many g) text) items items left text
  going_first text left items e =
      record {
        done = [];
        is = none_done (read (many g) text) ∙ ap (λ n. next (read_each begins (read g) n text) (λ xs end. Got ([] ++ xs) end)) (sym e);
        behind = sym (append-nil items);
      }

  module _ (o : Outcome Token (List A)) (old mid : List X) where
    ended : (left : ℕ) (rest : List Token) → IsGoing g gives o old mid left rest → read_each begins (read g) left rest ≡ Got [] rest
        → Adds (flat_map gives) o old mid rest
    ended left rest h e =
        record {
          meaning = h.done;
          is = h.is ∙ ap (λ q. next q (λ xs end. Got (h.done ++ xs) end)) e ∙ ap (λ d. Got d rest) (append-nil h.done);
          behind = h.behind;
        }

    pub going_ends : (left : ℕ) (rest : List Token) → IsGoing g gives o old mid left rest → begins rest ≡ false → Adds (flat_map gives) o old mid rest
    going_ends left rest h e = ended left rest h (ends_each left rest e)

    pub going_over : (left : ℕ) (rest : List Token) → left ≡ 0 → IsGoing g gives o old mid left rest → Adds (flat_map gives) o old mid rest
    going_over left rest z h = ended left rest h (ap (λ n. read_each begins (read g) n rest) z)

    one_round : (n : ℕ) (rest : List Token) → (h : IsGoing g gives o old mid (suc n) rest) → begins rest ≡ true
        → o ≡ next (next (read g rest) (λ x r. next (read_each begins (read g) n r) (λ xs end. Got (x ∷ xs) end))) (λ xs end. Got (h.done ++ xs) end)
    one_round n rest h e =
        h.is ∙ ap (λ b. next (choose b (next (read g rest) (λ x r. next (read_each begins (read g) n r) (λ xs end. Got (x ∷ xs) end))) (Got [] rest))
        (λ xs end. Got (h.done ++ xs) end)) e

    pub going_stops : (left : ℕ) (rest : List Token) (end : ℕ) (f : ReadFault) → 0 < left → IsGoing g gives o old mid left rest → begins rest ≡ true
        → Stops end (read g rest) f → Stops end o f
    going_stops zero rest end f m h e s = absurd (omega arith)
    going_stops (suc n) rest end f m h e s =
        stops_as end o _ f (one_round n rest h e) (next_stops end _ _ f (next_stops end (read g rest) _ f s))

    pub going_on : (left less : ℕ) (rest after : List Token) (new : List X) → left ≡ suc less → IsGoing g gives o old mid left rest → begins rest ≡ true
        → Adds gives (read g rest) mid new after → IsGoing g gives o old new less after
    going_on left less rest after new m h e a =
        let k : IsGoing g gives o old mid (suc less) rest = subst (λ n. IsGoing g gives o old mid n rest) m h in
        record {
          done = k.done ++ a.meaning ∷ [];
          is =
              one_round less rest k e
              ∙ ap (λ q. next (next q (λ x r. next (read_each begins (read g) less r) (λ xs end. Got (x ∷ xs) end))) (λ xs end. Got (k.done ++ xs) end)) a.is
              ∙ more_done k.done a.meaning (read_each begins (read g) less after);
          behind =
              a.behind
              ∙ ap (λ m. m ++ gives a.meaning) k.behind
              ∙ append_assoc old (flat_map gives k.done) (gives a.meaning)
              ∙ ap (λ l. old ++ l) (ap (λ l. flat_map gives k.done ++ l) (sym (append-nil (gives a.meaning)))
              ∙ sym (flat_map-append gives k.done (a.meaning ∷ [])));
        }

-- ---- statements

within_first : (forks ifs : ℕ) → first (within forks ifs) ≡ statement_classes
unfolding within inner_forks inner_ifs
within_first forks ifs =
    (statement_is (expression 0) (inner_forks forks) (inner_ifs forks ifs) (expression_is 0) (forks_fit (expression 0) (expression_is 0) 32 forks)
    (ifs_fit (expression 0) (expression_is 0) (inner_forks forks) (forks_fit (expression 0) (expression_is 0) 32 forks) ifs)).shape.begins

within_starts : (forks ifs : ℕ) (text : List Token) (b : Bool) → starts text_tokens statement_classes text ≡ b
    → starts text_tokens (first (within forks ifs)) text ≡ b
within_starts forks ifs text b e = ap (λ ks. starts text_tokens ks text) (within_first forks ifs) ∙ e

module _ (forks ifs : ℕ) where
  pub within_begins : (text : List Token) (left : ℕ) (lines : Statements) → left ≡ length text
      → IsGoing (within forks ifs) alone (read (many (within forks ifs)) text) lines lines left text
  within_begins text left lines e = going_first (within forks ifs) alone text left lines e

  module _ (o : Outcome Token (List TextStatement)) (old mid : Statements) where
    pub within_ends : (left : ℕ) (rest : List Token) → IsGoing (within forks ifs) alone o old mid left rest → starts text_tokens statement_classes rest ≡ false
        → Adds (flat_map alone) o old mid rest
    within_ends left rest h e = going_ends (within forks ifs) alone o old mid left rest h (within_starts forks ifs rest false e)

    pub within_over : (left : ℕ) (rest : List Token) → left ≡ 0 → IsGoing (within forks ifs) alone o old mid left rest → Adds (flat_map alone) o old mid rest
    within_over left rest z h = going_over (within forks ifs) alone o old mid left rest z h

    pub within_stops : (left : ℕ) (rest : List Token) (end : ℕ) (f : ReadFault) → 0 < left → IsGoing (within forks ifs) alone o old mid left rest
        → starts text_tokens statement_classes rest ≡ true → Stops end (read (within forks ifs) rest) f → Stops end o f
    within_stops left rest end f m h e s =
        going_stops (within forks ifs) alone o old mid left rest end f m h (within_starts forks ifs rest true e) s

    pub within_goes_on : (left less : ℕ) (rest after : List Token) (new : Statements) → left ≡ suc less → IsGoing (within forks ifs) alone o old mid left rest
        → starts text_tokens statement_classes rest ≡ true → Adds alone (read (within forks ifs) rest) mid new after
        → IsGoing (within forks ifs) alone o old new less after
    within_goes_on left less rest after new m h e a =
        going_on (within forks ifs) alone o old mid left less rest after new m h (within_starts forks ifs rest true e) a

-- ---- branches

abbrev par_word : List Class
par_word = TheWord word.Par ∷ []

module _ (forks : ℕ) where
  branch_starts : (text : List Token) (b : Bool) → starts text_tokens par_word text ≡ b
      → starts text_tokens (first (branch word.Par (within forks if_limit))) text ≡ b
  unfolding branch
  branch_starts text b e = e

  pub branches_begin : (text : List Token) (left : ℕ) (lines : List (ℕ × Statements)) → left ≡ length text
      → IsGoing (branch word.Par (within forks if_limit)) one_branch (read (many (branch word.Par (within forks if_limit))) text) lines lines left text
  branches_begin text left lines e = going_first (branch word.Par (within forks if_limit)) one_branch text left lines e

  module _ (o : Outcome Token (List (Token × Statements))) (old mid : List (ℕ × Statements)) where
    pub branches_end : (left : ℕ) (rest : List Token) → IsGoing (branch word.Par (within forks if_limit)) one_branch o old mid left rest
        → starts text_tokens par_word rest ≡ false → Adds (flat_map one_branch) o old mid rest
    branches_end left rest h e = going_ends (branch word.Par (within forks if_limit)) one_branch o old mid left rest h (branch_starts rest false e)

    pub branches_over : (left : ℕ) (rest : List Token) → left ≡ 0 → IsGoing (branch word.Par (within forks if_limit)) one_branch o old mid left rest
        → Adds (flat_map one_branch) o old mid rest
    branches_over left rest z h = going_over (branch word.Par (within forks if_limit)) one_branch o old mid left rest z h

    pub branch_stops : (left : ℕ) (rest : List Token) (end : ℕ) (f : ReadFault) → 0 < left
        → IsGoing (branch word.Par (within forks if_limit)) one_branch o old mid left rest → starts text_tokens par_word rest ≡ true
        → Stops end (read (branch word.Par (within forks if_limit)) rest) f → Stops end o f
    branch_stops left rest end f m h e s =
        going_stops (branch word.Par (within forks if_limit)) one_branch o old mid left rest end f m h (branch_starts rest true e) s

    pub branches_go_on : (left less : ℕ) (rest after : List Token) (new : List (ℕ × Statements)) → left ≡ suc less
        → IsGoing (branch word.Par (within forks if_limit)) one_branch o old mid left rest → starts text_tokens par_word rest ≡ true
        → Adds one_branch (read (branch word.Par (within forks if_limit)) rest) mid new after
        → IsGoing (branch word.Par (within forks if_limit)) one_branch o old new less after
    branches_go_on left less rest after new m h e a =
        going_on (branch word.Par (within forks if_limit)) one_branch o old mid left less rest after new m h (branch_starts rest true e) a
