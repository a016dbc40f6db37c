-- What the parts of a text mean that both languages have: names, variables and expressions with their places.
use Rattle.std.specs.Prelude.{ℕ, Option, Some, None, List, [], ◌∷◌}
use Rattle.sc_values.specs.declared.value.Kind.{Kind}
use Rattle.sc_values.specs.declared.value.Kind.TheVariants as of_kind
use Rattle.sc_graph.specs.declared.program.Role.{Role}
use Rattle.sc_graph.specs.declared.program.Role.TheVariants as role
use Rattle.sc_text.specs.declared.word.Word.TheVariants as word
use Rattle.sc_text.specs.declared.token.Token.{Token}
use Rattle.sc_text.specs.declared.token.TokenKind.{TokenKind}
use Rattle.sc_text.specs.declared.token.TokenKind.TheVariants as token
use Rattle.sc_text.specs.Classes.{Class, TheWord}
use Rattle.sc_text.specs.Phrases.{Phrase}
use Rattle.sc_text.specs.declared.drafts.parts.Named.{Named}
use Rattle.sc_text.specs.declared.drafts.parts.TextExpression.{TextExpression}
use Rattle.sc_text.specs.declared.drafts.parts.Declaration.{Declaration}

-- the name that a token is
abbrev pub name_of : TokenKind → List ℕ
name_of (token.Name name) = name
name_of k = []

abbrev pub named : Token → Named
named t = record { name = name_of t.kind; at = t.at }

-- the words by which a variable is declared
abbrev pub roles : List Class
roles = TheWord word.Input ∷ TheWord word.Output ∷ TheWord word.Local ∷ []

abbrev pub kinds : List Class
kinds = TheWord word.Bool ∷ TheWord word.Int ∷ []

abbrev pub role_of : TokenKind → Role
role_of (token.Word word.Input) = role.Input
role_of (token.Word word.Output) = role.Output
role_of (token.Word word.Local) = role.Local
-- no other token stands there
role_of k = role.Local

abbrev pub kind_of : TokenKind → Kind
kind_of (token.Word word.Bool) = of_kind.Bool
kind_of (token.Word word.Int) = of_kind.Int
-- no other token stands there
kind_of k = of_kind.Int

-- what stands there, or nothing
abbrev pub or_none : {A : Type 0} → Option (List A) → List A
or_none None = []
or_none (Some xs) = xs

-- an expression with its first token
abbrev pub expressed : Token × Phrase → TextExpression
expressed e = record { start = e.0.at; operations = e.1 }

abbrev pub declared_as : Role → Kind → Named → Declaration
declared_as r k n = record { role = r; kind = k; named = n }
