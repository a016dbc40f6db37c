-- What the grammar of SCL gives of each draft.
use Rattle.std.proofs.Common.{ℕ, zero, suc, List, Option, Some, None, map, sym, subst}
use Rattle.grammar.proofs.Each.{Every, OfIt, Each, every_at, every_map, each_seq, each_either, each_maybe, each_many, each_made, each_headed, each_barred}
use Rattle.grammar.proofs.Each.{each_as}
use Rattle.sc_text.specs.declared.language.Language.TheVariants as language
use Rattle.sc_text.specs.declared.token.Token.{Token}
use Rattle.sc_text.specs.declared.word.Word.{Word}
use Rattle.sc_text.specs.declared.word.Word.TheVariants as word
use Rattle.sc_text.specs.Parts.{IsNameIn}
use Rattle.sc_text.specs.Phrases.{Phrase}
use Rattle.sc_text.specs.Expression.{text_tokens, expression}
use Rattle.sc_text.proofs.WellTokens.{IsWell, tokens_well}
use Rattle.sc_text.proofs.EachPart.{each_token, each_after, each_before}
use Rattle.sc_text.proofs.WritablePhrases.{CanWrite, expression_writes}
use Rattle.sc_text.specs.DraftParts.{name_of, named, expressed}
use Rattle.sc_text.proofs.EachName.{each_name}
use Rattle.scl_reader.specs.declared.text_drafts.statement.TextStatement.{TextStatement}
use Rattle.scl_reader.specs.declared.text_drafts.draft.Draft.{Draft}
use Rattle.scl_reader.specs.Statements.{Statements, AfterName, Becomes, IsLabel, named_statement, none_or_them, branch_of}
use Rattle.scl_reader.specs.Program.{Grows, Text, assigned, labelled, named as named_part, goto, pause, simple, block, test, choice, branch, fork, Inner}
use Rattle.scl_reader.specs.Program.{NoMore, Nested, forking, statement, ifs_within, forks_within, thread, declaration, program, scl}
use Rattle.scl_reader.specs.Draft.{IsDraft, declared, draft_of}
use Rattle.scl_reader.specs.Shape.{shape_of, IsShaped}
use Rattle.scl_reader.proofs.Shaping.{Fits, row_fits, thread_fits, assign_fits, label_fits, goto_fits, pause_fits, if_fits, fork_fits}

abbrev EachScl : {A : Type 0} → Grows A → (A → Type 0) → Type 0
EachScl g P = Each {L = text_tokens} (IsWell language.Scl) g P

abbrev AfterFits : AfterName → Type 0
AfterFits (Becomes first value) = CanWrite value
AfterFits IsLabel = Unit {0}

module _ (e : Grows Phrase) (w : EachScl e CanWrite) (limit : ℕ) where
  abbrev StatementFits : (forks ifs : ℕ) → TextStatement → Type 0
  StatementFits forks ifs s = Fits limit forks ifs (shape_of s)

  abbrev AllFit : (forks ifs : ℕ) → Statements → Type 0
  AllFit forks ifs statements = Every (StatementFits forks ifs) statements

  abbrev Grown : (forks ifs : ℕ) → Grows TextStatement → Type 0
  Grown forks ifs g = EachScl g (StatementFits forks ifs)

  assigned_fits : EachScl (assigned e) AfterFits
  unfolding assigned
  assigned_fits = each_made _ _ _ _ _ AfterFits (each_after _ _ _ (each_before _ _ _ (each_headed _ _ _ w))) (λ x h. h)

  labelled_fits : EachScl labelled AfterFits
  unfolding labelled
  labelled_fits = each_made _ _ _ _ _ AfterFits (each_token _) (λ t h. tt)

  named_fits : (forks ifs : ℕ) (t : Token) (a : AfterName) → IsNameIn language.Scl (name_of t.kind) → AfterFits a
      → StatementFits forks ifs (named_statement t a)
  named_fits forks ifs t (Becomes first value) n h = assign_fits limit forks ifs (named t) (expressed (first, value)) h
  named_fits forks ifs t IsLabel n h = label_fits limit forks ifs (named t) n

  simple_fits : (forks ifs : ℕ) → Grown forks ifs (simple e)
  unfolding simple named_part goto pause
  simple_fits forks ifs =
      each_either _ _ _ _
      (each_made _ _ _ _ _ (StatementFits forks ifs)
      (each_seq _ _ _ _ _ _ (each_name language.Scl) (each_either _ _ _ _ assigned_fits labelled_fits))
      (λ x h. named_fits forks ifs x.0 x.1 h.0 h.1))
      (each_either _ _ _ _
      (each_made _ _ _ _ _ (StatementFits forks ifs) (each_after _ _ _ (each_before _ _ _ (each_token _))) (λ t h. goto_fits limit forks ifs (named t)))
      (each_made _ _ _ _ _ (StatementFits forks ifs) (each_before _ _ _ (each_token _)) (λ t h. pause_fits limit forks ifs t.at)))

  block_fits : (forks ifs : ℕ) (s : Grows TextStatement) → Grown forks ifs s → EachScl (block s) (AllFit forks ifs)
  unfolding block
  block_fits forks ifs s g = each_after _ _ _ (each_before _ _ _ (each_many _ _ _ g))

  none_or_them_fit : (forks ifs : ℕ) (statements : Option Statements) → OfIt (AllFit forks ifs) statements → AllFit forks ifs (none_or_them statements)
  none_or_them_fit forks ifs None h = tt
  none_or_them_fit forks ifs (Some statements) h = h

  choice_fits : (forks ifs : ℕ) (s : Grows TextStatement) → Grown forks ifs s → Grown forks (suc ifs) (choice e s)
  unfolding choice test
  choice_fits forks ifs s g =
      each_made _ _ _ _ _ (StatementFits forks (suc ifs))
      (each_seq _ _ _ _ _ _ (each_token _)
      (each_seq _ _ _ _ _ _ (each_after _ _ _ (each_before _ _ _ (each_headed _ _ _ w)))
      (each_seq _ _ _ _ _ _ (block_fits forks ifs s g) (each_maybe _ _ _ (each_after _ _ _ (block_fits forks ifs s g))))))
      (λ x h.
      if_fits limit forks ifs x.0.at (expressed x.1.0) x.1.1.0 (none_or_them x.1.1.1) h.1.0 h.1.1.0
      (none_or_them_fit forks ifs x.1.1.1 h.1.1.1))

  branch_fits : (forks : ℕ) (opening : Word) (s : Grows TextStatement) → Grown forks limit s → EachScl (branch opening s) (λ b. AllFit forks limit b.1)
  unfolding branch
  branch_fits forks opening s g =
      each_as _ _ _ (λ b. AllFit forks limit b.1) (each_seq _ _ _ _ _ _ (each_token _) (block_fits forks limit s g)) (λ b h. h.1)

  forked_fits : (forks ifs : ℕ) (s : Grows TextStatement) → Grown forks limit s → Grown (suc forks) ifs (fork s)
  unfolding fork
  forked_fits forks ifs s g =
      each_made _ _ _ _ _ (StatementFits (suc forks) ifs)
      (each_seq _ _ _ _ _ _ (branch_fits forks word.Fork s g)
      (each_before _ _ _ (each_seq _ _ _ _ _ _ (each_many _ _ _ (branch_fits forks word.Par s g)) (each_token _))))
      (λ x h.
      fork_fits limit forks ifs (branch_of x.0) (map branch_of x.1.0) x.1.1.at
      (h.0, every_map (λ b. AllFit forks limit b.1) branch_of x.1.0 h.1.0))

  -- the statements within one more fork, and within one more if
  data ForksFit : ℕ → Inner → Type 1 where
    no_forks : ForksFit zero NoMore
    some_forks : (n : ℕ) (s : Grows TextStatement) → Grown n limit s → ForksFit (suc n) (Nested s)

  data IfsFit (forks : ℕ) : ℕ → Inner → Type 1 where
    no_ifs : IfsFit forks zero NoMore
    some_ifs : (n : ℕ) (s : Grows TextStatement) → Grown forks n s → IfsFit forks (suc n) (Nested s)

  forking_fits : (forks ifs : ℕ) (f : Inner) → ForksFit forks f → Grown forks ifs (forking e f)
  unfolding forking
  forking_fits forks ifs f no_forks = each_barred _ _ _ _ (simple_fits zero ifs)
  forking_fits forks ifs f (some_forks n s g) = each_either _ _ _ _ (forked_fits n ifs s g) (simple_fits (suc n) ifs)

  statement_fits : (forks ifs : ℕ) (f i : Inner) → ForksFit forks f → IfsFit forks ifs i → Grown forks ifs (statement e f i)
  unfolding statement
  statement_fits forks ifs f i a no_ifs = each_barred _ _ _ _ (forking_fits forks zero f a)
  statement_fits forks ifs f i a (some_ifs n s g) = each_either _ _ _ _ (choice_fits forks n s g) (forking_fits forks (suc n) f a)

  ifs_fit : (forks : ℕ) (f : Inner) → ForksFit forks f → (n : ℕ) → IfsFit forks n (ifs_within e f n)
  unfolding ifs_within
  ifs_fit forks f a zero = no_ifs
  ifs_fit forks f a (suc n) = some_ifs n _ (statement_fits forks n f (ifs_within e f n) a (ifs_fit forks f a n))

  forks_fit : (n : ℕ) → ForksFit n (forks_within e limit n)
  unfolding forks_within
  forks_fit zero = no_forks
  forks_fit (suc n) =
      some_forks n _
      (statement_fits n limit (forks_within e limit n) (ifs_within e (forks_within e limit n) limit) (forks_fit n)
      (ifs_fit n (forks_within e limit n) (forks_fit n) limit))

  each_thread_fits : (forks : ℕ) → Grown forks limit (thread e limit forks)
  unfolding thread
  each_thread_fits forks =
      statement_fits forks limit (forks_within e limit forks) (ifs_within e (forks_within e limit forks) limit) (forks_fit forks)
      (ifs_fit forks (forks_within e limit forks) (forks_fit forks) limit)

-- ---- whole programs

abbrev IsNamed : List ℕ → Type 0
IsNamed name = IsNameIn language.Scl name

abbrev IsDeclared : Token × (Token × Token) → Type 0
IsDeclared d = IsNamed (name_of d.1.1.kind)

declaration_named : EachScl declaration IsDeclared
unfolding declaration
declaration_named =
    each_as _ _ _ IsDeclared
    (each_seq _ _ _ _ _ _ (each_token _) (each_seq _ _ _ _ _ _ (each_token _) (each_before _ _ _ (each_name language.Scl))))
    (λ d h. h.1.1)

abbrev ProgramFits : Text → Type 0
ProgramFits t = IsNamed (name_of t.0.kind) × (Every IsDeclared t.1.0 × Every (λ s. Fits 32 32 32 (shape_of s)) t.1.1)

program_fits : EachScl (scl 0) ProgramFits
unfolding scl program
program_fits =
    each_after _ _ _
    (each_seq _ _ _ _ _ _ (each_name language.Scl)
    (each_after _ _ _
    (each_before _ _ _
    (each_seq _ _ _ _ _ _ (each_many _ _ _ declaration_named)
    (each_many _ _ _ (each_thread_fits (expression 0) (expression_writes language.Scl 0) 32 32))))))

draft_shaped : (t : Text) → ProgramFits t → IsShaped (draft_of t)
draft_shaped t h =
    let f = thread_fits 32 32 0 _ (row_fits 32 32 32 t.1.1 h.1.1) in
    record {
      named = h.0;
      declared = every_at (λ x. IsNamed x.named.name) (map declared t.1.0) (every_map _ declared t.1.0 h.1.0);
      labels = every_at IsNamed _ f.lower;
      writable = f.writable;
      branches = every_at _ _ f.branches;
      forks = f.low_depth;
      ifs = f.low_lower_ifs;
    }

-- the draft of each text keeps what the grammar gives
pub draft_is_shaped : (text : List ℕ) (d : Draft) → IsDraft text d → IsShaped d
draft_is_shaped text d h =
    subst IsShaped (sym h.drafted)
    (draft_shaped h.program (program_fits.holds h.tokens h.program (tokens_well language.Scl 0 text h.tokens h.cut) h.spelled))
