-- What private functions that read the parts of a program say. It is proved, and no public contract rests on what it means.

use Rattle.std.specs.Prelude.{ℕ, ◌≡◌, List, [], ◌∷◌, ◌++◌, drop, map}
use Rattle.std.specs.List.{flat_map}
use Rattle.grammar.specs.Grammar.{seq, many}
use Rattle.grammar.specs.Predictive.{first}
use Rattle.grammar.specs.Read.{Outcome, Got, next, starts, read, read_each}
use Rattle.sc_text.specs.declared.word.Word.TheVariants as word
use Rattle.sc_text.specs.declared.sign.Sign.TheVariants as sign
use Rattle.sc_text.specs.declared.token.Token.{Token}
use Rattle.sc_text.specs.Classes.{Class, AName, TheWord, TheSign}
use Rattle.sc_text.specs.Phrases.{Phrase}
use Rattle.sc_text.specs.Expression.{text_tokens, after, before}
use Rattle.sc_text.specs.declared.drafts.parts.Named.{Named}
use Rattle.sc_text.specs.declared.drafts.parts.TextExpression.{TextExpression}
use Rattle.sc_text.specs.declared.drafts.parts.Declaration.{Declaration}
use Rattle.sc_text.specs.DraftParts.{named, expressed, roles, kinds, role_of, kind_of}
use Rattle.scl.specs.Rules.{fork_limit, if_limit}
use Rattle.scl_reader.specs.Statements.{Statements, branch_of}
use Rattle.sc_values.specs.declared.value.Kind.{Kind}
use Rattle.sc_graph.specs.declared.program.Role.{Role}
use Rattle.scl_reader.specs.declared.text_drafts.draft.Draft.{Draft}
use Rattle.scl_reader.specs.Program.{Grows, name, declaration, Text}
use Rattle.scl_reader.specs.Within.{within}
use Rattle.scl_reader.specs.Draft.{declared, draft_of}

-- this name is next
pub record TakesName (text : List Token) (called : Named) : Type 0 where
  pub token : Token
  pub is : read name text ≡ Got token (drop 1 text)
  pub means : called ≡ named token

-- an expression was read, with its first token
pub record TakesValue (o : Outcome Token (Token × Phrase)) (value : TextExpression) (rest : List Token) : Type 0 where
  pub head : Token
  pub phrase : Phrase
  pub is : o ≡ Got (head, phrase) rest
  pub means : value ≡ expressed (head, phrase)

-- a phrase was read, and what it gives stands behind the old items
pub record Adds {A X : Type 0} (gives : A → List X) (o : Outcome Token A) (old new : List X) (rest : List Token) : Type 0 where
  pub meaning : A
  pub is : o ≡ Got meaning rest
  pub behind : new ≡ old ++ gives meaning

-- some of many phrases were read, and what they give stands behind the old items; so many more may follow
pub record IsGoing {A X : Type 0} (g : Grows A) (gives : A → List X) (o : Outcome Token (List A)) (old new : List X) (left : ℕ)
    (rest : List Token) : Type 0 where
  pub done : List A
  pub is : o ≡ next (read_each (starts text_tokens (first g)) (read g) left rest) (λ xs end. Got (done ++ xs) end)
  pub behind : new ≡ old ++ flat_map gives done

abbrev pub itself : {A : Type 0} → A → A
itself x = x

abbrev pub alone : {A : Type 0} → A → List A
alone x = x ∷ []

-- the tokens that begin a statement
abbrev pub statement_classes : List Class
statement_classes = TheWord word.If ∷ TheWord word.Fork ∷ AName ∷ TheWord word.Goto ∷ TheWord word.Pause ∷ []

-- a branch, by the word that opens it
abbrev pub one_branch : Token × Statements → List (ℕ × Statements)
one_branch b = branch_of b ∷ []

-- a word that gives a role, or a kind, was read
pub record TakesRole (o : Outcome Token Token) (role : Role) (rest : List Token) : Type 0 where
  pub token : Token
  pub is : o ≡ Got token rest
  pub writes : role ≡ role_of token.kind

pub record TakesKind (o : Outcome Token Token) (kind : Kind) (rest : List Token) : Type 0 where
  pub token : Token
  pub is : o ≡ Got token rest
  pub writes : kind ≡ kind_of token.kind

abbrev pub one_declared : Token × (Token × Token) → List Declaration
one_declared d = declared d ∷ []

-- what stands in the braces of a program
abbrev pub in_braces : Grows (List (Token × (Token × Token)) × Statements)
in_braces =
    after (TheSign sign.OpenBrace ∷ [])
    (before (seq (many declaration) (many (within fork_limit if_limit))) (TheSign sign.CloseBrace ∷ []))

-- it was read
pub record AddsBody (o : Outcome Token (List (Token × (Token × Token)) × Statements)) (old_variables variables : List Declaration)
    (old_statements statements : Statements) (rest : List Token) : Type 0 where
  pub variables_read : List (Token × (Token × Token))
  pub statements_read : Statements
  pub is : o ≡ Got (variables_read, statements_read) rest
  pub variables_behind : variables ≡ old_variables ++ map declared variables_read
  pub statements_behind : statements ≡ old_statements ++ statements_read

-- a text was read to its end, and this is its draft
pub record Drafts (o : Outcome Token Text) (draft : Draft) : Type 0 where
  pub program : Text
  pub is : o ≡ Got program []
  pub drafted : draft ≡ draft_of program
