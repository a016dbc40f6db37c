-- What the parts of an SCL text mean: its statements.
use Rattle.std.specs.Prelude.{ℕ, Option, Some, None, List, [], ◌∷◌, map}
use Rattle.sc_text.specs.declared.token.Token.{Token}
use Rattle.sc_text.specs.Phrases.{Phrase}
use Rattle.sc_text.specs.DraftParts.{named, expressed}
use Rattle.scl_reader.specs.declared.text_drafts.statement.TextStatement.{TextStatement}
use Rattle.scl_reader.specs.declared.text_drafts.statement.TextStatement.TheVariants as text

abbrev pub Statements : Type 0
Statements = List TextStatement

-- what stands behind a name: an expression with its first token, or a colon
pub data AfterName : Type 0 where
  Becomes : (first : Token) (value : Phrase) → AfterName
  IsLabel : AfterName

abbrev pub named_statement : Token → AfterName → TextStatement
named_statement t (Becomes first value) = text.Assign (named t) (expressed (first, value))
named_statement t IsLabel = text.Label (named t)

abbrev pub goto_statement : Token → TextStatement
goto_statement t = text.Goto (named t)

abbrev pub pause_statement : Token → TextStatement
pause_statement t = text.Pause t.at

abbrev pub none_or_them : Option Statements → Statements
none_or_them None = []
none_or_them (Some statements) = statements

-- an `if`, a test with its first token, the first list, and the second one if it is there
abbrev pub if_statement : Token → Token × Phrase → Statements → Option Statements → TextStatement
if_statement t test first second = text.If t.at (expressed test) first (none_or_them second)

-- a branch by the word that opens it
abbrev pub branch_of : Token × Statements → ℕ × Statements
branch_of b = (b.0.at, b.1)

-- its branches, and the `join`
abbrev pub fork_statement : Token × Statements → List (Token × Statements) → Token → TextStatement
fork_statement first more t = text.Fork (branch_of first ∷ map branch_of more) t.at
