-- Where more parentheses, forks and ifs may stand in one another, only what was barred is open.
use Rattle.std.proofs.Common.{ℕ, suc, ◌+◌}
use Rattle.grammar.specs.Deeper.{Deeper, IsLanguage, same_one, deeper_seq, deeper_either, deeper_maybe, deeper_many, deeper_made, deeper_headed, opened}
use Rattle.grammar.specs.Deeper.{with_one, with_seq, with_made}
use Rattle.sc_text.specs.Phrases.{Phrase}
use Rattle.sc_text.specs.Expression.{expression}
use Rattle.sc_text.proofs.Deepens.{Above, above_none, above_more, above_by, expression_wider}
use Rattle.sc_text.specs.declared.token.Token.{Token}
use Rattle.sc_text.specs.declared.word.Word.{Word}
use Rattle.sc_text.specs.declared.word.Word.TheVariants as word
use Rattle.scl_reader.specs.declared.text_drafts.statement.TextStatement.{TextStatement}
use Rattle.scl_reader.specs.Statements.{Statements}
use Rattle.scl_reader.specs.Program.{Grows, Text, assigned, labelled, named, goto, pause, simple, block, test, choice, branch, fork, Inner, NoMore, Nested}
use Rattle.scl_reader.specs.Program.{forking, statement, ifs_within, forks_within, thread, declaration, program, scl}
use Rattle.scl_reader.proofs.Shapes.{scl_is}

abbrev Wider : Grows TextStatement → Grows TextStatement → Type 1
Wider g h = Deeper TextStatement g h

data Opened : Inner → Inner → Type 1 where
  from_none : (s : Grows TextStatement) → Opened NoMore (Nested s)
  in_each : (s s' : Grows TextStatement) → Wider s s' → Opened (Nested s) (Nested s')

goto_same : Wider goto goto
unfolding goto
goto_same =
    deeper_made _ _ _ _ _
    (deeper_made _ _ _ _ _ (deeper_seq _ _ _ _ _ _ (same_one _) (deeper_made _ _ _ _ _ (deeper_seq _ _ _ _ _ _ (same_one _) (same_one _)))))

pause_same : Wider pause pause
unfolding pause
pause_same = deeper_made _ _ _ _ _ (deeper_made _ _ _ _ _ (deeper_seq _ _ _ _ _ _ (same_one _) (same_one _)))

block_wider : (s s' : Grows TextStatement) → Wider s s' → Deeper Statements (block s) (block s')
unfolding block
block_wider s s' d =
    deeper_made _ _ _ _ _
    (deeper_seq _ _ _ _ _ _ (same_one _) (deeper_made _ _ _ _ _ (deeper_seq _ _ _ _ _ _ (deeper_many _ _ _ d) (same_one _))))

branch_wider : (w : Word) (s s' : Grows TextStatement) → Wider s s' → Deeper (Token × Statements) (branch w s) (branch w s')
unfolding branch
branch_wider w s s' d = deeper_seq _ _ _ _ _ _ (same_one _) (block_wider s s' d)

fork_wider : (s s' : Grows TextStatement) → Wider s s' → Wider (fork s) (fork s')
unfolding fork
fork_wider s s' d =
    deeper_made _ _ _ _ _
    (deeper_seq _ _ _ _ _ _ (branch_wider word.Fork s s' d)
    (deeper_made _ _ _ _ _
    (deeper_seq _ _ _ _ _ _ (deeper_seq _ _ _ _ _ _ (deeper_many _ _ _ (branch_wider word.Par s s' d)) (same_one _)) (same_one _))))

module _ (e e' : Grows Phrase) (w : Deeper Phrase e e') where
  simple_wider : Wider (simple e) (simple e')
  unfolding simple named assigned labelled
  simple_wider =
      deeper_either _ _ _ _ _
      (deeper_made _ _ _ _ _
      (deeper_seq _ _ _ _ _ _ (same_one _)
      (deeper_either _ _ _ _ _
      (deeper_made _ _ _ _ _
      (deeper_made _ _ _ _ _
      (deeper_seq _ _ _ _ _ _ (same_one _)
      (deeper_made _ _ _ _ _ (deeper_seq _ _ _ _ _ _ (deeper_headed _ _ _ w) (same_one _))))))
      (deeper_made _ _ _ _ _ (same_one _)))))
      (deeper_either _ _ _ _ _ goto_same pause_same)

  choice_wider : (s s' : Grows TextStatement) → Wider s s' → Wider (choice e s) (choice e' s')
  unfolding choice test
  choice_wider s s' d =
      deeper_made _ _ _ _ _
      (deeper_seq _ _ _ _ _ _ (same_one _)
      (deeper_seq _ _ _ _ _ _
      (deeper_made _ _ _ _ _
      (deeper_seq _ _ _ _ _ _ (same_one _)
      (deeper_made _ _ _ _ _ (deeper_seq _ _ _ _ _ _ (deeper_headed _ _ _ w) (same_one _)))))
      (deeper_seq _ _ _ _ _ _ (block_wider s s' d)
      (deeper_maybe _ _ _ (deeper_made _ _ _ _ _ (deeper_seq _ _ _ _ _ _ (same_one _) (block_wider s s' d)))))))

  forking_wider : (i j : Inner) → Opened i j → Wider (forking e i) (forking e' j)
  unfolding forking fork branch
  forking_wider i j (from_none s) =
      opened _ _ _ _ _ (with_made _ _ _ _ _ (with_seq _ _ _ _ _ (with_seq _ _ _ _ _ (with_one _)))) simple_wider
  forking_wider i j (in_each s s' d) = deeper_either _ _ _ _ _ (fork_wider s s' d) simple_wider

  statement_wider : (f g i j : Inner) → Opened f g → Opened i j → Wider (statement e f i) (statement e' g j)
  unfolding statement choice
  statement_wider f g i j o (from_none s) =
      opened _ _ _ _ _ (with_made _ _ _ _ _ (with_seq _ _ _ _ _ (with_one _))) (forking_wider f g o)
  statement_wider f g i j o (in_each s s' d) = deeper_either _ _ _ _ _ (choice_wider s s' d) (forking_wider f g o)

  ifs_opened : (f g : Inner) → Opened f g → (n m : ℕ) → Above n m → Opened (ifs_within e f n) (ifs_within e' g m)
  unfolding ifs_within
  ifs_opened f g o n m (above_none k) = from_none _
  ifs_opened f g o n m (above_more k l a) =
      in_each _ _ (statement_wider f g (ifs_within e f k) (ifs_within e' g l) o (ifs_opened f g o k l a))

  forks_opened : (p q : ℕ) → Above p q → (n m : ℕ) → Above n m → Opened (forks_within e p n) (forks_within e' q m)
  unfolding forks_within
  forks_opened p q b n m (above_none k) = from_none _
  forks_opened p q b n m (above_more k l a) =
      in_each _ _
      (statement_wider (forks_within e p k) (forks_within e' q l) (ifs_within e (forks_within e p k) p) (ifs_within e' (forks_within e' q l) q)
      (forks_opened p q b k l a) (ifs_opened (forks_within e p k) (forks_within e' q l) (forks_opened p q b k l a) p q b))

  thread_wider : (p q : ℕ) → Above p q → Wider (thread e p p) (thread e' q q)
  unfolding thread
  thread_wider p q b =
      statement_wider (forks_within e p p) (forks_within e' q q) (ifs_within e (forks_within e p p) p) (ifs_within e' (forks_within e' q q) q)
      (forks_opened p q b p q b) (ifs_opened (forks_within e p p) (forks_within e' q q) (forks_opened p q b p q b) p q b)

program_wider : (s s' : Grows TextStatement) → Wider s s' → Deeper Text (program s) (program s')
unfolding program declaration
program_wider s s' d =
    deeper_made _ _ _ _ _
    (deeper_seq _ _ _ _ _ _ (same_one _)
    (deeper_seq _ _ _ _ _ _ (same_one _)
    (deeper_made _ _ _ _ _
    (deeper_seq _ _ _ _ _ _ (same_one _)
    (deeper_made _ _ _ _ _
    (deeper_seq _ _ _ _ _ _
    (deeper_seq _ _ _ _ _ _
    (deeper_many _ _ _
    (deeper_seq _ _ _ _ _ _ (same_one _)
    (deeper_seq _ _ _ _ _ _ (same_one _) (deeper_made _ _ _ _ _ (deeper_seq _ _ _ _ _ _ (same_one _) (same_one _))))))
    (deeper_many _ _ _ d))
    (same_one _)))))))

scl_wider : (k : ℕ) → Deeper Text (scl 0) (scl (suc k))
unfolding scl
scl_wider k =
    program_wider (thread (expression 0) (32 + 0) (32 + 0)) (thread (expression (suc k)) (32 + suc k) (32 + suc k))
    (thread_wider (expression 0) (expression (suc k)) (expression_wider k) 32 (32 + suc k) (above_by 32 k))

pub is_language : IsLanguage scl
is_language = record { predictive = λ k. (scl_is k).predictive; deeper = scl_wider }
