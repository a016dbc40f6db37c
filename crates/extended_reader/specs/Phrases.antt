-- How modules begin, and what uses are, behind their first words. Where `word` stands any name may; that it is the right
-- one is no matter of the grammar.
--
--   head      = name "(" [ parameter { "," parameter } ] ")" "{"
--   parameter = ( "input" | "output" | word ) kind name
--   use       = name "(" [ argument { "," argument } ] ")" word name ";"
--   argument  = name | number | "true" | "false"
use Rattle.std.specs.Prelude.{ℕ, Bool, List, [], ◌∷◌, codes, if◌then◌else◌}
use Rattle.std.specs.Str.{bytes_eq}
use Rattle.grammar.specs.Grammar.{one, seq, maybe, made}
use Rattle.sc_values.specs.declared.value.Kind.{Kind}
use Rattle.sc_text.specs.declared.word.Word.TheVariants as word
use Rattle.sc_text.specs.declared.sign.Sign.TheVariants as sign
use Rattle.sc_text.specs.declared.token.Token.{Token}
use Rattle.sc_text.specs.declared.token.TokenKind.{TokenKind}
use Rattle.sc_text.specs.declared.token.TokenKind.TheVariants as token
use Rattle.sc_text.specs.Classes.{Class, AName, Zero, Number, TheWord}
use Rattle.sc_text.specs.Expression.{after, before}
use Rattle.sc_text.specs.declared.drafts.parts.Named.{Named}
use Rattle.sc_text.specs.DraftParts.{or_none}
use Rattle.chart_reader.specs.ChartText.{Grows, the_sign, name, last_name, declared_kind, listed}
use Rattle.extended_reader.specs.declared.modules.parts.ParameterRole.{ParameterRole}
use Rattle.extended_reader.specs.declared.modules.parts.ParameterRole.TheVariants as role
use Rattle.extended_reader.specs.declared.modules.parts.Parameter.{Parameter}
use Rattle.extended_reader.specs.declared.modules.parts.ModuleHead.{ModuleHead}
use Rattle.extended_reader.specs.declared.modules.parts.ModuleUse.{ModuleUse}

-- ---- parameters

abbrev pub parameter_first : List Class
parameter_first = TheWord word.Input ∷ TheWord word.Output ∷ AName ∷ []

abbrev pub role_of : TokenKind → ParameterRole
role_of (token.Word word.Input) = role.Input
role_of (token.Word word.Output) = role.Output
role_of (token.Name n) = if bytes_eq n (codes "const") then role.Constant else role.Other
role_of k = role.Other

abbrev pub opening : Grows (ParameterRole × ℕ)
opening = made (λ t. (role_of t.kind, t.at)) (one parameter_first)

abbrev pub parameter_of : ParameterRole × ℕ → Kind → Named → Parameter
parameter_of opening k n = record { role = opening.0; at = opening.1; kind = k; named = n }

unfoldable pub parameter : Grows Parameter
parameter = made (λ x. parameter_of x.0 x.1.0 x.1.1) (seq opening (seq declared_kind name))

unfoldable pub next_parameter : Grows Parameter
next_parameter = after (the_sign sign.Comma) parameter

unfoldable pub some_parameters : Grows (List Parameter)
some_parameters = listed parameter next_parameter

unfoldable pub parameters : Grows (List Parameter)
parameters = made or_none (maybe some_parameters)

unfoldable pub last_parameters : Grows (List Parameter)
last_parameters = before parameters (the_sign sign.CloseParenthesis)

unfoldable pub all_parameters : Grows (List Parameter)
all_parameters = after (the_sign sign.OpenParenthesis) last_parameters

abbrev pub head_of : Named → List Parameter → ModuleHead
head_of n parameters = record { named = n; parameters = parameters }

unfoldable pub head : Grows ModuleHead
head = made (λ x. head_of x.0 x.1) (seq name all_parameters)

unfoldable pub opened : Grows ModuleHead
opened = before head (the_sign sign.OpenBrace)

-- ---- arguments

abbrev pub argument_classes : List Class
argument_classes = AName ∷ Zero ∷ Number ∷ TheWord word.True ∷ TheWord word.False ∷ []

abbrev pub argument : Grows Token
argument = made (λ t. t) (one argument_classes)

unfoldable pub next_argument : Grows Token
next_argument = after (the_sign sign.Comma) argument

unfoldable pub some_arguments : Grows (List Token)
some_arguments = listed argument next_argument

unfoldable pub arguments : Grows (List Token)
arguments = made or_none (maybe some_arguments)

unfoldable pub last_arguments : Grows (List Token)
last_arguments = before arguments (the_sign sign.CloseParenthesis)

unfoldable pub all_arguments : Grows (List Token)
all_arguments = after (the_sign sign.OpenParenthesis) last_arguments

abbrev pub use_of : Named → List Token → Named → Named → ModuleUse
use_of m arguments word n = record { called = m; arguments = arguments; word = word; named = n }

unfoldable pub using : Grows ModuleUse
using = made (λ x. use_of x.0 x.1.0 x.1.1.0 x.1.1.1) (seq name (seq all_arguments (seq name last_name)))
