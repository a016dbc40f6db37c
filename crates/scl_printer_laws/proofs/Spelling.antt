-- How the tokens of its parts spell a statement, in the grammar of SCL.
use Rattle.std.proofs.Common.{ℕ, zero, suc, Option, Some, List, [], ◌∷◌, ◌++◌, refl, inl, inr}
use Rattle.grammar.specs.Grammar.{one as one_of, seq, headed, many, maybe, each_spelled, spells}
use Rattle.sc_text.specs.declared.word.Word.{Word}
use Rattle.sc_text.specs.declared.word.Word.TheVariants as word
use Rattle.sc_text.specs.declared.sign.Sign.TheVariants as sign
use Rattle.sc_text.specs.declared.token.Token.{Token}
use Rattle.sc_text.specs.Classes.{Class, TheWord, TheSign}
use Rattle.sc_text.specs.Phrases.{Phrase}
use Rattle.sc_text.specs.Expression.{after, before, expression}
use Rattle.scl.specs.Rules.{if_limit}
use Rattle.scl_reader.specs.declared.text_drafts.statement.TextStatement.{TextStatement}
use Rattle.scl_reader.specs.Statements.{Statements, Becomes, IsLabel, named_statement, goto_statement, pause_statement, if_statement, fork_statement}
use Rattle.scl_reader.specs.Program.{Grows, name, semicolon, assigned, labelled, named, goto, pause, simple, block, test, choice, branch, fork}
use Rattle.scl_reader.specs.Program.{forking, statement, ifs_within, forks_within}
use Rattle.scl_reader.specs.Within.{inner_forks, inner_ifs, within}
use Rattle.scl_printer_laws.proofs.Lines.{named_at}
use Rattle.scl_printer_laws.proofs.Cuts.{signed_at, worded_at}
use Rattle.scl_printer_laws.proofs.Levels.{Fits}

pub after_of : {A : Type 0} (classes : List Class) (g : Grows A) (t : Token) (us : List Token) (q : A) → Fits classes t → spells g us q
    → spells (after classes g) (t ∷ us) q
after_of classes g t us q c s = ((t, q), refl, (t ∷ [], us, refl, (refl, c), s))

pub before_of : {A : Type 0} (classes : List Class) (g : Grows A) (t : Token) (us : List Token) (q : A) → Fits classes t → spells g us q
    → spells (before g classes) (us ++ t ∷ []) q
before_of classes g t us q c s = ((q, t), refl, (us, t ∷ [], refl, s, (refl, c)))

-- ---- statements in which no other stands

abbrev Simple : List Token → TextStatement → Type 0
Simple ts s = spells (simple (expression 0)) ts s

pub assign_is : (n : List ℕ) (a b c : ℕ) (ts : List Token) (v : Token × Phrase) → spells (headed (expression 0)) ts v
    → Simple (named_at n a ∷ (signed_at sign.Becomes b ∷ (ts ++ signed_at sign.Semicolon c ∷ []))) (named_statement (named_at n a) (Becomes v.0 v.1))
unfolding simple named assigned
assign_is n a b c ts v s =
    inl (
      (named_at n a, Becomes v.0 v.1),
      refl,
      (
        named_at n a ∷ [],
        signed_at sign.Becomes b ∷ (ts ++ signed_at sign.Semicolon c ∷ []),
        refl,
        (refl, refl),
        inl (
          v,
          refl,
          after_of (TheSign sign.Becomes ∷ []) (before (headed (expression 0)) semicolon) (signed_at sign.Becomes b)
              (ts ++ signed_at sign.Semicolon c ∷ []) v refl
              (before_of semicolon (headed (expression 0)) (signed_at sign.Semicolon c) ts v refl s),
        ),
      ),
    )

pub label_is : (n : List ℕ) (a b : ℕ) → Simple (named_at n a ∷ (signed_at sign.Colon b ∷ [])) (named_statement (named_at n a) IsLabel)
unfolding simple named labelled
label_is n a b =
    inl ((named_at n a, IsLabel), refl, (named_at n a ∷ [], signed_at sign.Colon b ∷ [], refl, (refl, refl), inr (signed_at sign.Colon b, refl, (refl, refl))))

pub goto_is : (n : List ℕ) (a b c : ℕ) → Simple (worded_at word.Goto a ∷ (named_at n b ∷ (signed_at sign.Semicolon c ∷ []))) (goto_statement (named_at n b))
unfolding simple goto
goto_is n a b c =
    inr (inl (
      named_at n b,
      refl,
      after_of (TheWord word.Goto ∷ []) (before name semicolon) (worded_at word.Goto a)
          (named_at n b ∷ (signed_at sign.Semicolon c ∷ [])) (named_at n b) refl
          (before_of semicolon name (signed_at sign.Semicolon c) (named_at n b ∷ []) (named_at n b) refl (refl, refl)),
    ))

pub pause_is : (a b : ℕ)
    → Simple (worded_at word.Pause a ∷ (signed_at sign.Semicolon b ∷ [])) (pause_statement (worded_at word.Pause a))
unfolding simple pause
pause_is a b =
    let word_token : Token = worded_at word.Pause a in
    let end_token : Token = signed_at sign.Semicolon b in
    inr (inr (
      word_token,
      refl,
      ((word_token, end_token), refl, (word_token ∷ [], end_token ∷ [], refl, (refl, refl), (refl, refl))),
    ))

-- ---- statements in braces

pub block_is : (s : Grows TextStatement) (a b : ℕ) (ts : List Token) (all : Statements) → each_spelled (spells s) ts all
    → spells (block s) (signed_at sign.OpenBrace a ∷ (ts ++ signed_at sign.CloseBrace b ∷ [])) all
unfolding block
block_is s a b ts all h =
    after_of (TheSign sign.OpenBrace ∷ []) (before (many s) (TheSign sign.CloseBrace ∷ [])) (signed_at sign.OpenBrace a)
    (ts ++ signed_at sign.CloseBrace b ∷ []) all refl
    (before_of (TheSign sign.CloseBrace ∷ []) (many s) (signed_at sign.CloseBrace b) ts all refl h)

-- what may stand behind the first list of an if
abbrev pub Otherwise : Grows TextStatement → Grows (Option Statements)
Otherwise s = maybe (after (TheWord word.Else ∷ []) (block s))

pub else_of : (s : Grows TextStatement) (a b c : ℕ) (ts : List Token) (all : Statements) → each_spelled (spells s) ts all
    → spells (Otherwise s) (worded_at word.Else a ∷ (signed_at sign.OpenBrace b ∷ (ts ++ signed_at sign.CloseBrace c ∷ []))) (Some all)
else_of s a b c ts all h =
    after_of (TheWord word.Else ∷ []) (block s) (worded_at word.Else a) (signed_at sign.OpenBrace b ∷ (ts ++ signed_at sign.CloseBrace c ∷ [])) all refl
    (block_is s b c ts all h)

test_of : (a b : ℕ) (ts : List Token) (v : Token × Phrase) → spells (headed (expression 0)) ts v
    → spells (test (expression 0)) (signed_at sign.OpenParenthesis a ∷ (ts ++ signed_at sign.CloseParenthesis b ∷ [])) v
unfolding test
test_of a b ts v s =
    after_of (TheSign sign.OpenParenthesis ∷ []) (before (headed (expression 0)) (TheSign sign.CloseParenthesis ∷ [])) (signed_at sign.OpenParenthesis a)
    (ts ++ signed_at sign.CloseParenthesis b ∷ []) v refl
    (before_of (TheSign sign.CloseParenthesis ∷ []) (headed (expression 0)) (signed_at sign.CloseParenthesis b) ts v refl s)

pub if_is : (s : Grows TextStatement) (a b c d e : ℕ) (es ts us : List Token) (v : Token × Phrase) (all : Statements) (other : Option Statements)
    → spells (headed (expression 0)) es v → each_spelled (spells s) ts all → spells (Otherwise s) us other
    → spells (choice (expression 0) s) (worded_at word.If a ∷ ((signed_at sign.OpenParenthesis b ∷ (es ++ signed_at sign.CloseParenthesis c ∷ []))
    ++ ((signed_at sign.OpenBrace d ∷ (ts ++ signed_at sign.CloseBrace e ∷ [])) ++ us))) (if_statement (worded_at word.If a) v all other)
unfolding choice
if_is s a b c d e es ts us v all other h i j =
    let tested : List Token = signed_at sign.OpenParenthesis b ∷ (es ++ signed_at sign.CloseParenthesis c ∷ []) in
    let first : List Token = signed_at sign.OpenBrace d ∷ (ts ++ signed_at sign.CloseBrace e ∷ []) in (
      (worded_at word.If a, (v, (all, other))),
      refl,
      (
        worded_at word.If a ∷ [],
        tested ++ (first ++ us),
        refl,
        (refl, refl),
        (tested, first ++ us, refl, test_of b c es v h, (first, us, refl, block_is s d e ts all i, j)),
      ),
    )

pub branch_is : (w : Word) (s : Grows TextStatement) (a b c : ℕ) (ts : List Token) (all : Statements) → Fits (TheWord w ∷ []) (worded_at w a)
    → each_spelled (spells s) ts all
    → spells (branch w s) (worded_at w a ∷ (signed_at sign.OpenBrace b ∷ (ts ++ signed_at sign.CloseBrace c ∷ []))) (worded_at w a, all)
unfolding branch
branch_is w s a b c ts all fits h =
    (worded_at w a ∷ [], signed_at sign.OpenBrace b ∷ (ts ++ signed_at sign.CloseBrace c ∷ []), refl, (refl, fits), block_is s b c ts all h)

pub fork_is : (s : Grows TextStatement) (a b : ℕ) (ts us : List Token) (one : Token × Statements) (others : List (Token × Statements))
    → spells (branch word.Fork s) ts one → each_spelled (spells (branch word.Par s)) us others
    → spells (fork s) (ts ++ ((us ++ worded_at word.Join a ∷ []) ++ signed_at sign.Semicolon b ∷ []))
    (fork_statement one others (worded_at word.Join a))
unfolding fork
fork_is s a b ts us one others h i = (
  (one, (others, worded_at word.Join a)),
  refl,
  (
    ts,
    (us ++ worded_at word.Join a ∷ []) ++ signed_at sign.Semicolon b ∷ [],
    refl,
    h,
    before_of semicolon (seq (many (branch word.Par s)) (one_of (TheWord word.Join ∷ []))) (signed_at sign.Semicolon b)
        (us ++ worded_at word.Join a ∷ []) (others, worded_at word.Join a) refl
        (us, worded_at word.Join a ∷ [], refl, i, (refl, refl)),
  ),
)

-- ---- where so many forks and ifs may still stand in one another

pub within_simple : (forks ifs : ℕ) (ts : List Token) (s : TextStatement) → Simple ts s → spells (within forks ifs) ts s
unfolding within inner_forks inner_ifs statement forking ifs_within forks_within
within_simple zero zero ts s h = h
within_simple zero (suc i) ts s h = inr h
within_simple (suc f) zero ts s h = inr h
within_simple (suc f) (suc i) ts s h = inr (inr h)

pub within_if : (forks ifs : ℕ) (ts : List Token) (s : TextStatement) → spells (choice (expression 0) (within forks ifs)) ts s
    → spells (within forks (suc ifs)) ts s
unfolding within inner_forks inner_ifs statement ifs_within
within_if forks ifs ts s h = inl h

pub within_fork : (forks ifs : ℕ) (ts : List Token) (s : TextStatement) → spells (fork (within forks if_limit)) ts s → spells (within (suc forks) ifs) ts s
unfolding within inner_forks inner_ifs statement forking ifs_within forks_within
within_fork forks zero ts s h = inl h
within_fork forks (suc i) ts s h = inr (inl h)
