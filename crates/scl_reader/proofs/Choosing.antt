-- Which statement is read: an if, a fork or another one, by the next token; and what would stand too deep.
use Rattle.std.proofs.Common.{◌≡◌, ℕ, zero, suc, ◌-◌, true, false, List, [], ◌∷◌, refl, sym, ◌∙◌, ap, subst, arith}
use Rattle.grammar.specs.Read.{Deep, Failed, starts, choose, read}
use Rattle.sc_text.specs.declared.token.Token.{Token}
use Rattle.sc_text.specs.declared.word.Word.TheVariants as word
use Rattle.sc_text.specs.declared.read_fault.ReadFault.{ReadFault}
use Rattle.sc_text.specs.Classes.{Class, TheWord}
use Rattle.sc_text.specs.Expression.{text_tokens, expression}
use Rattle.sc_text.specs.Reading.{Stops}
use Rattle.sc_text.proofs.Steps.{stops_as}
use Rattle.sc_text.proofs.Nesting.{deep_at}
use Rattle.scl.specs.Rules.{if_limit}
use Rattle.scl_reader.specs.Statements.{Statements}
use Rattle.scl_reader.specs.Program.{simple, choice, branch, fork, forking, statement, ifs_within, forks_within}
use Rattle.scl_reader.specs.Inside.TextDrafts.{Adds, alone}
use Rattle.scl_reader.specs.Within.{inner_forks, inner_ifs, within, no_if}
use Rattle.scl_reader.proofs.Taking.{deep_stops, adds_as}

abbrev if_word : List Class
if_word = TheWord word.If ∷ []

abbrev fork_word : List Class
fork_word = TheWord word.Fork ∷ []

one_less : (n : ℕ) → (n ≡ 0 → ⊥) → n ≡ suc (n - 1)
one_less zero z = absurd (z refl)
one_less (suc n) z = omega arith

-- ---- ifs

module _ (forks : ℕ) (text : List Token) where
  no_if_read : (ifs : ℕ) → starts text_tokens if_word text ≡ false → read (within forks ifs) text ≡ read (no_if forks) text
  unfolding within no_if inner_ifs ifs_within statement choice
  no_if_read zero e = ap (λ b. choose b (Failed Deep text) (read (no_if forks) text)) e
  no_if_read (suc n) e = ap (λ b. choose b (read (choice (expression 0) (within forks n)) text) (read (no_if forks) text)) e

  deep_if_read : starts text_tokens if_word text ≡ true → read (within forks 0) text ≡ Failed Deep text
  unfolding within no_if inner_ifs ifs_within statement
  deep_if_read e = ap (λ b. choose b (Failed Deep text) (read (no_if forks) text)) e

  inner_if_read : (n : ℕ) → starts text_tokens if_word text ≡ true → read (within forks (suc n)) text ≡ read (choice (expression 0) (within forks n)) text
  unfolding within no_if inner_ifs ifs_within statement choice
  inner_if_read n e = ap (λ b. choose b (read (choice (expression 0) (within forks n)) text) (read (no_if forks) text)) e

  if_read : (ifs : ℕ) → (ifs ≡ 0 → ⊥) → starts text_tokens if_word text ≡ true → read (within forks ifs) text
      ≡ read (choice (expression 0) (within forks (ifs - 1))) text
  if_read ifs z e = ap (λ n. read (within forks n) text) (one_less ifs z) ∙ inner_if_read (ifs - 1) e

  module _ (ifs : ℕ) where
    pub no_if_stops : (end : ℕ) (f : ReadFault) → starts text_tokens if_word text ≡ false → Stops end (read (no_if forks) text) f
        → Stops end (read (within forks ifs) text) f
    no_if_stops end f e s = stops_as end _ _ f (no_if_read ifs e) s

    pub no_if_reads : (rest : List Token) (old new : Statements) → starts text_tokens if_word text ≡ false → Adds alone (read (no_if forks) text) old new rest
        → Adds alone (read (within forks ifs) text) old new rest
    no_if_reads rest old new e a = adds_as alone _ _ old new rest (no_if_read ifs e) a

    pub if_deep : (end : ℕ) (f : ReadFault) → ifs ≡ 0 → starts text_tokens if_word text ≡ true → f ≡ deep_at end text
        → Stops end (read (within forks ifs) text) f
    if_deep end f z e w =
        deep_stops end _ text f (subst (λ n. read (within forks n) text ≡ Failed Deep text) (sym z) (deep_if_read e)) w

    pub if_stops : (end : ℕ) (f : ReadFault) → (ifs ≡ 0 → ⊥) → starts text_tokens if_word text ≡ true
        → Stops end (read (choice (expression 0) (within forks (ifs - 1))) text) f → Stops end (read (within forks ifs) text) f
    if_stops end f z e s = stops_as end _ _ f (if_read ifs z e) s

    pub if_reads : (rest : List Token) (old new : Statements) → (ifs ≡ 0 → ⊥) → starts text_tokens if_word text ≡ true
        → Adds alone (read (choice (expression 0) (within forks (ifs - 1))) text) old new rest → Adds alone (read (within forks ifs) text) old new rest
    if_reads rest old new z e a = adds_as alone _ _ old new rest (if_read ifs z e) a

-- ---- forks

module _ (text : List Token) where
  no_fork_read : (forks : ℕ) → starts text_tokens fork_word text ≡ false → read (no_if forks) text ≡ read (simple (expression 0)) text
  unfolding no_if inner_forks forks_within forking fork branch within inner_ifs
  no_fork_read zero e = ap (λ b. choose b (Failed Deep text) (read (simple (expression 0)) text)) e
  no_fork_read (suc n) e = ap (λ b. choose b (read (fork (within n if_limit)) text) (read (simple (expression 0)) text)) e

  deep_fork_read : starts text_tokens fork_word text ≡ true → read (no_if 0) text ≡ Failed Deep text
  unfolding no_if inner_forks forks_within forking
  deep_fork_read e = ap (λ b. choose b (Failed Deep text) (read (simple (expression 0)) text)) e

  inner_fork_read : (n : ℕ) → starts text_tokens fork_word text ≡ true → read (no_if (suc n)) text ≡ read (fork (within n if_limit)) text
  unfolding no_if inner_forks forks_within forking fork branch within inner_ifs
  inner_fork_read n e = ap (λ b. choose b (read (fork (within n if_limit)) text) (read (simple (expression 0)) text)) e

  fork_read : (forks : ℕ) → (forks ≡ 0 → ⊥) → starts text_tokens fork_word text ≡ true
      → read (no_if forks) text ≡ read (fork (within (forks - 1) if_limit)) text
  fork_read forks z e = ap (λ n. read (no_if n) text) (one_less forks z) ∙ inner_fork_read (forks - 1) e

  module _ (forks : ℕ) where
    pub simple_stops : (end : ℕ) (f : ReadFault) → starts text_tokens fork_word text ≡ false → Stops end (read (simple (expression 0)) text) f
        → Stops end (read (no_if forks) text) f
    simple_stops end f e s = stops_as end _ _ f (no_fork_read forks e) s

    pub simple_reads : (rest : List Token) (old new : Statements) → starts text_tokens fork_word text ≡ false
        → Adds alone (read (simple (expression 0)) text) old new rest → Adds alone (read (no_if forks) text) old new rest
    simple_reads rest old new e a = adds_as alone _ _ old new rest (no_fork_read forks e) a

    pub fork_deep : (end : ℕ) (f : ReadFault) → forks ≡ 0 → starts text_tokens fork_word text ≡ true → f ≡ deep_at end text
        → Stops end (read (no_if forks) text) f
    fork_deep end f z e w =
        deep_stops end _ text f (subst (λ n. read (no_if n) text ≡ Failed Deep text) (sym z) (deep_fork_read e)) w

    pub fork_stops : (end : ℕ) (f : ReadFault) → (forks ≡ 0 → ⊥) → starts text_tokens fork_word text ≡ true
        → Stops end (read (fork (within (forks - 1) if_limit)) text) f → Stops end (read (no_if forks) text) f
    fork_stops end f z e s = stops_as end _ _ f (fork_read forks z e) s

    pub fork_reads : (rest : List Token) (old new : Statements) → (forks ≡ 0 → ⊥) → starts text_tokens fork_word text ≡ true
        → Adds alone (read (fork (within (forks - 1) if_limit)) text) old new rest → Adds alone (read (no_if forks) text) old new rest
    fork_reads rest old new z e a = adds_as alone _ _ old new rest (fork_read forks z e) a
