-- At each choice of the grammar of SCL the next token decides.
use Rattle.std.proofs.Common.{ℕ, zero, suc, ◌+◌, false, List, [], ◌∷◌, refl}
use Rattle.grammar.proofs.Shaped.{Shaped, shaped_one, shaped_seq, shaped_either, shaped_maybe, shaped_many, shaped_made, shaped_headed, shaped_barred}
use Rattle.sc_text.specs.declared.word.Word.{Word}
use Rattle.sc_text.specs.declared.word.Word.TheVariants as word
use Rattle.sc_text.specs.declared.sign.Sign.TheVariants as sign
use Rattle.sc_text.specs.Classes.{Class, AName, TheWord, TheSign}
use Rattle.sc_text.specs.Phrases.{Phrase}
use Rattle.sc_text.specs.Expression.{expression}
use Rattle.sc_text.proofs.Shapes.{Is, expression_first, expression_tails, expression_is}
use Rattle.sc_text.specs.DraftParts.{roles}
use Rattle.scl_reader.specs.declared.text_drafts.statement.TextStatement.{TextStatement}
use Rattle.scl_reader.specs.Program.{Grows, assigned, labelled, named, goto, pause, simple, block, test, choice, branch, fork, Inner, NoMore, Nested, forking}
use Rattle.scl_reader.specs.Program.{statement, ifs_within, forks_within, thread, declaration, program, scl}

abbrev IsExpression : Grows Phrase → Type 0
IsExpression e = Is e expression_first expression_tails

abbrev simple_first : List Class
simple_first = AName ∷ TheWord word.Goto ∷ TheWord word.Pause ∷ []

abbrev statement_first : List Class
statement_first = TheWord word.If ∷ TheWord word.Fork ∷ simple_first

-- what goes on where a statement may end: an else, where it may be an if
pub data Ends : List Class → Type 0 where
  with_none : Ends []
  with_else : Ends (TheWord word.Else ∷ [])

pub record IsStatement (s : Grows TextStatement) : Type 0 where
  pub tails : List Class
  pub ends : Ends tails
  pub shape : Shaped s false statement_first tails

pub data Fits : Inner → Type 1 where
  nothing : Fits NoMore
  nested : (s : Grows TextStatement) → IsStatement s → Fits (Nested s)

named_is : (e : Grows Phrase) → IsExpression e → Shaped (named e) false (AName ∷ []) []
unfolding named assigned labelled
named_is e h =
    shaped_made _ _ _ _ _ _ _
    (shaped_seq _ _ _ _ _ _ _ _ _ _ (shaped_one _ refl)
    (shaped_either _ _ _ _ _ _ _
    (shaped_made _ _ _ _ _ _ _
    (shaped_made _ _ _ _ _ _ _
    (shaped_seq _ _ _ _ _ _ _ _ _ _ (shaped_one _ refl)
    (shaped_made _ _ _ _ _ _ _ (shaped_seq _ _ _ _ _ _ _ _ _ _ (shaped_headed _ _ _ _ h) (shaped_one _ refl) refl))
    refl)))
    (shaped_made _ _ _ _ _ _ _ (shaped_one _ refl)) refl)
    refl)

goto_is : Shaped goto false (TheWord word.Goto ∷ []) []
unfolding goto
goto_is =
    shaped_made _ _ _ _ _ _ _
    (shaped_made _ _ _ _ _ _ _
    (shaped_seq _ _ _ _ _ _ _ _ _ _ (shaped_one _ refl)
    (shaped_made _ _ _ _ _ _ _ (shaped_seq _ _ _ _ _ _ _ _ _ _ (shaped_one _ refl) (shaped_one _ refl) refl))
    refl))

pause_is : Shaped pause false (TheWord word.Pause ∷ []) []
unfolding pause
pause_is =
    shaped_made _ _ _ _ _ _ _
    (shaped_made _ _ _ _ _ _ _ (shaped_seq _ _ _ _ _ _ _ _ _ _ (shaped_one _ refl) (shaped_one _ refl) refl))

simple_is : (e : Grows Phrase) → IsExpression e → Shaped (simple e) false simple_first []
unfolding simple
simple_is e h = shaped_either _ _ _ _ _ _ _ (named_is e h) (shaped_either _ _ _ _ _ _ _ goto_is pause_is refl) refl

block_as : (s : Grows TextStatement) (t : List Class) → Ends t → Shaped s false statement_first t → Shaped (block s) false (TheSign sign.OpenBrace ∷ []) []
unfolding block
block_as s t with_none h =
    shaped_made _ _ _ _ _ _ _
    (shaped_seq _ _ _ _ _ _ _ _ _ _ (shaped_one _ refl)
    (shaped_made _ _ _ _ _ _ _
    (shaped_seq _ _ _ _ _ _ _ _ _ _ (shaped_many _ _ _ _ h refl) (shaped_one _ refl) refl))
    refl)
block_as s t with_else h =
    shaped_made _ _ _ _ _ _ _
    (shaped_seq _ _ _ _ _ _ _ _ _ _ (shaped_one _ refl)
    (shaped_made _ _ _ _ _ _ _
    (shaped_seq _ _ _ _ _ _ _ _ _ _ (shaped_many _ _ _ _ h refl) (shaped_one _ refl) refl))
    refl)

block_is : (s : Grows TextStatement) → IsStatement s → Shaped (block s) false (TheSign sign.OpenBrace ∷ []) []
block_is s h = block_as s h.tails h.ends h.shape

test_is : (e : Grows Phrase) → IsExpression e → Shaped (test e) false (TheSign sign.OpenParenthesis ∷ []) []
unfolding test
test_is e h =
    shaped_made _ _ _ _ _ _ _
    (shaped_seq _ _ _ _ _ _ _ _ _ _ (shaped_one _ refl)
    (shaped_made _ _ _ _ _ _ _ (shaped_seq _ _ _ _ _ _ _ _ _ _ (shaped_headed _ _ _ _ h) (shaped_one _ refl) refl))
    refl)

choice_is : (e : Grows Phrase) (s : Grows TextStatement) → IsExpression e → IsStatement s
    → Shaped (choice e s) false (TheWord word.If ∷ []) (TheWord word.Else ∷ [])
unfolding choice
choice_is e s h i =
    shaped_made _ _ _ _ _ _ _
    (shaped_seq _ _ _ _ _ _ _ _ _ _ (shaped_one _ refl)
    (shaped_seq _ _ _ _ _ _ _ _ _ _ (test_is e h)
    (shaped_seq _ _ _ _ _ _ _ _ _ _ (block_is s i)
    (shaped_maybe _ _ _ _ (shaped_made _ _ _ _ _ _ _ (shaped_seq _ _ _ _ _ _ _ _ _ _ (shaped_one _ refl) (block_is s i) refl)))
    refl)
    refl)
    refl)

branch_is : (w : Word) (s : Grows TextStatement) → IsStatement s → Shaped (branch w s) false (TheWord w ∷ []) []
unfolding branch
branch_is w s i = shaped_seq _ _ _ _ _ _ _ _ _ _ (shaped_one _ refl) (block_is s i) refl

fork_is : (s : Grows TextStatement) → IsStatement s → Shaped (fork s) false (TheWord word.Fork ∷ []) []
unfolding fork
fork_is s i =
    shaped_made _ _ _ _ _ _ _
    (shaped_seq _ _ _ _ _ _ _ _ _ _ (branch_is word.Fork s i)
    (shaped_made _ _ _ _ _ _ _
    (shaped_seq _ _ _ _ _ _ _ _ _ _
    (shaped_seq _ _ _ _ _ _ _ _ _ _ (shaped_many _ _ _ _ (branch_is word.Par s i) refl) (shaped_one _ refl) refl)
    (shaped_one _ refl) refl))
    refl)

forking_is : (e : Grows Phrase) (forks : Inner) → IsExpression e → Fits forks → Shaped (forking e forks) false (TheWord word.Fork ∷ simple_first) []
unfolding forking
forking_is e NoMore h nothing = shaped_barred _ _ _ _ _ (simple_is e h) refl
forking_is e (Nested a) h (nested s i) = shaped_either _ _ _ _ _ _ _ (fork_is s i) (simple_is e h) refl

pub statement_is : (e : Grows Phrase) (forks ifs : Inner) → IsExpression e → Fits forks → Fits ifs → IsStatement (statement e forks ifs)
unfolding statement
statement_is e forks NoMore h f nothing =
    record { tails = []; ends = with_none; shape = shaped_barred _ _ _ _ _ (forking_is e forks h f) refl }
statement_is e forks (Nested a) h f (nested s i) =
    record {
      tails = TheWord word.Else ∷ [];
      ends = with_else;
      shape = shaped_either _ _ _ _ _ _ _ (choice_is e s h i) (forking_is e forks h f) refl;
    }

module _ (e : Grows Phrase) (h : IsExpression e) where
  pub ifs_fit : (forks : Inner) → Fits forks → (n : ℕ) → Fits (ifs_within e forks n)
  unfolding ifs_within
  ifs_fit forks f zero = nothing
  ifs_fit forks f (suc n) = nested _ (statement_is e forks (ifs_within e forks n) h f (ifs_fit forks f n))

  pub forks_fit : (ifs n : ℕ) → Fits (forks_within e ifs n)
  unfolding forks_within
  forks_fit ifs zero = nothing
  forks_fit ifs (suc n) =
      nested _
      (statement_is e (forks_within e ifs n) (ifs_within e (forks_within e ifs n) ifs) h (forks_fit ifs n)
      (ifs_fit (forks_within e ifs n) (forks_fit ifs n) ifs))

  thread_is : (ifs forks : ℕ) → IsStatement (thread e ifs forks)
  unfolding thread
  thread_is ifs forks =
      statement_is e (forks_within e ifs forks) (ifs_within e (forks_within e ifs forks) ifs) h (forks_fit ifs forks)
      (ifs_fit (forks_within e ifs forks) (forks_fit ifs forks) ifs)

declaration_is : Shaped declaration false roles []
unfolding declaration
declaration_is =
    shaped_seq _ _ _ _ _ _ _ _ _ _ (shaped_one _ refl)
    (shaped_seq _ _ _ _ _ _ _ _ _ _ (shaped_one _ refl)
    (shaped_made _ _ _ _ _ _ _ (shaped_seq _ _ _ _ _ _ _ _ _ _ (shaped_one _ refl) (shaped_one _ refl) refl))
    refl)
    refl

program_as : (s : Grows TextStatement) (t : List Class) → Ends t → Shaped s false statement_first t → Shaped (program s) false (TheWord word.Scl ∷ []) []
unfolding program
program_as s t with_none h =
    shaped_made _ _ _ _ _ _ _
    (shaped_seq _ _ _ _ _ _ _ _ _ _ (shaped_one _ refl)
    (shaped_seq _ _ _ _ _ _ _ _ _ _ (shaped_one _ refl)
    (shaped_made _ _ _ _ _ _ _
    (shaped_seq _ _ _ _ _ _ _ _ _ _ (shaped_one _ refl)
    (shaped_made _ _ _ _ _ _ _
    (shaped_seq _ _ _ _ _ _ _ _ _ _
    (shaped_seq _ _ _ _ _ _ _ _ _ _ (shaped_many _ _ _ _ declaration_is refl) (shaped_many _ _ _ _ h refl) refl)
    (shaped_one _ refl) refl))
    refl))
    refl)
    refl)
program_as s t with_else h =
    shaped_made _ _ _ _ _ _ _
    (shaped_seq _ _ _ _ _ _ _ _ _ _ (shaped_one _ refl)
    (shaped_seq _ _ _ _ _ _ _ _ _ _ (shaped_one _ refl)
    (shaped_made _ _ _ _ _ _ _
    (shaped_seq _ _ _ _ _ _ _ _ _ _ (shaped_one _ refl)
    (shaped_made _ _ _ _ _ _ _
    (shaped_seq _ _ _ _ _ _ _ _ _ _
    (shaped_seq _ _ _ _ _ _ _ _ _ _ (shaped_many _ _ _ _ declaration_is refl) (shaped_many _ _ _ _ h refl) refl)
    (shaped_one _ refl) refl))
    refl))
    refl)
    refl)

pub scl_is : (k : ℕ) → Shaped (scl k) false (TheWord word.Scl ∷ []) []
unfolding scl
scl_is k =
    let t = thread_is (expression k) (expression_is k) (32 + k) (32 + k) in
    program_as (thread (expression k) (32 + k) (32 + k)) t.tails t.ends t.shape
