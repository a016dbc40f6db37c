-- The grammar of SCL text.
--
--   program   = "scl" name "{" { declaration } { statement } "}"
--   declaration = ("input" | "output" | "local") ("bool" | "int") name ";"
--   statement = "if" "(" expression ")" block [ "else" block ]
--             | "fork" block { "par" block } "join" ";"
--             | name ( "=" expression ";" | ":" ) | "goto" name ";" | "pause" ";"
--   block     = "{" { statement } "}"
use Rattle.std.specs.Prelude.{ℕ, zero, suc, ◌+◌, List, [], ◌∷◌}
use Rattle.grammar.specs.Grammar.{Grammar, one, seq, either, maybe, many, made, headed, barred}
use Rattle.sc_text.specs.declared.word.Word.{Word}
use Rattle.sc_text.specs.declared.word.Word.TheVariants as word
use Rattle.sc_text.specs.declared.sign.Sign.TheVariants as sign
use Rattle.sc_text.specs.declared.token.Token.{Token}
use Rattle.sc_text.specs.Classes.{Class, AName, TheWord, TheSign}
use Rattle.sc_text.specs.Phrases.{Phrase}
use Rattle.sc_text.specs.Expression.{text_tokens, after, before, expression}
use Rattle.scl.specs.Rules.{fork_limit, if_limit}
use Rattle.scl_reader.specs.declared.text_drafts.statement.TextStatement.{TextStatement}
use Rattle.scl_reader.specs.Statements.{Statements, AfterName, Becomes, IsLabel, named_statement, goto_statement, pause_statement, if_statement, fork_statement}

abbrev pub Grows : Type 0 → Type 1
Grows A = Grammar text_tokens A

abbrev pub name : Grows Token
name = one (AName ∷ [])

abbrev pub semicolon : List Class
semicolon = TheSign sign.Semicolon ∷ []

unfoldable pub assigned : Grows Phrase → Grows AfterName
assigned e =
    made (λ x. Becomes x.0 x.1) (after (TheSign sign.Becomes ∷ []) (before (headed e) semicolon))

unfoldable pub labelled : Grows AfterName
labelled = made (λ t. IsLabel) (one (TheSign sign.Colon ∷ []))

unfoldable pub named : Grows Phrase → Grows TextStatement
named e = made (λ x. named_statement x.0 x.1) (seq name (either (assigned e) labelled))

unfoldable pub goto : Grows TextStatement
goto = made goto_statement (after (TheWord word.Goto ∷ []) (before name semicolon))

unfoldable pub pause : Grows TextStatement
pause = made pause_statement (before (one (TheWord word.Pause ∷ [])) semicolon)

unfoldable pub simple : Grows Phrase → Grows TextStatement
simple e = either (named e) (either goto pause)

-- statements in braces
unfoldable pub block : Grows TextStatement → Grows Statements
block s = after (TheSign sign.OpenBrace ∷ []) (before (many s) (TheSign sign.CloseBrace ∷ []))

unfoldable pub test : Grows Phrase → Grows (Token × Phrase)
test e = after (TheSign sign.OpenParenthesis ∷ []) (before (headed e) (TheSign sign.CloseParenthesis ∷ []))

unfoldable pub choice : Grows Phrase → Grows TextStatement → Grows TextStatement
choice e s =
    made (λ x. if_statement x.0 x.1.0 x.1.1.0 x.1.1.1)
    (seq (one (TheWord word.If ∷ [])) (seq (test e) (seq (block s) (maybe (after (TheWord word.Else ∷ []) (block s))))))

-- statements in braces behind the word that opens a branch
unfoldable pub branch : Word → Grows TextStatement → Grows (Token × Statements)
branch opening s = seq (one (TheWord opening ∷ [])) (block s)

unfoldable pub fork : Grows TextStatement → Grows TextStatement
fork s =
    made (λ x. fork_statement x.0 x.1.0 x.1.1)
    (seq (branch word.Fork s) (before (seq (many (branch word.Par s)) (one (TheWord word.Join ∷ []))) semicolon))

-- the statements within one more fork or one more if: none, where no more of them may stand in one another
pub data Inner : Type 1 where
  NoMore : Inner
  Nested : (statement : Grows TextStatement) → Inner

unfoldable pub forking : Grows Phrase → Inner → Grows TextStatement
forking e NoMore = barred (TheWord word.Fork ∷ []) (simple e)
forking e (Nested s) = either (fork s) (simple e)

unfoldable pub statement : Grows Phrase → (forks ifs : Inner) → Grows TextStatement
statement e forks NoMore = barred (TheWord word.If ∷ []) (forking e forks)
statement e forks (Nested s) = either (choice e s) (forking e forks)

-- within an if, where so many ifs may stand in one another
unfoldable pub ifs_within : Grows Phrase → Inner → ℕ → Inner
ifs_within e forks zero = NoMore
ifs_within e forks (suc n) = Nested (statement e forks (ifs_within e forks n))

-- within a fork: ifs count anew in each branch
unfoldable pub forks_within : Grows Phrase → (ifs forks : ℕ) → Inner
forks_within e ifs zero = NoMore
forks_within e ifs (suc n) = Nested (statement e (forks_within e ifs n) (ifs_within e (forks_within e ifs n) ifs))

unfoldable pub thread : Grows Phrase → (ifs forks : ℕ) → Grows TextStatement
thread e ifs forks = statement e (forks_within e ifs forks) (ifs_within e (forks_within e ifs forks) ifs)

unfoldable pub declaration : Grows (Token × (Token × Token))
declaration =
    seq (one (TheWord word.Input ∷ TheWord word.Output ∷ TheWord word.Local ∷ []))
    (seq (one (TheWord word.Bool ∷ TheWord word.Int ∷ [])) (before name semicolon))

-- a program: its name, its declarations by their words and names, and its statements
abbrev pub Text : Type 0
Text = Token × (List (Token × (Token × Token)) × Statements)

unfoldable pub program : Grows TextStatement → Grows Text
program s =
    after (TheWord word.Scl ∷ [])
    (seq name
    (after (TheSign sign.OpenBrace ∷ []) (before (seq (many declaration) (many s)) (TheSign sign.CloseBrace ∷ []))))

-- the texts of programs, with k more levels of parentheses, forks and ifs than are allowed
unfoldable pub scl : ℕ → Grows Text
scl k = program (thread (expression k) (if_limit + k) (fork_limit + k))
