-- What the parts of a draft are once its names are looked up. A variable is named by its place among the declarations. What
-- a name is that no variable has, and operations that spell no tree, is said too, but a draft without flaws has neither.
use Rattle.std.specs.Prelude.{ℕ, false, List, map, unwrap_or}
use Rattle.sc_values.specs.declared.value.Value.TheVariants as value
use Rattle.sc_values.specs.declared.operation.Operation.{Operation}
use Rattle.sc_values.specs.declared.operation.Operation.TheVariants as op
use Rattle.sc_values.specs.declared.expression.Expr.{Expr}
use Rattle.sc_values.specs.declared.expression.Expr.TheVariants as tree
use Rattle.sc_values.specs.Code.{tree_of}
use Rattle.sc_graph.specs.declared.program.Variable.{Variable}
use Rattle.sc_text.specs.declared.operation.TextOperation.{TextOperation}
use Rattle.sc_text.specs.declared.operation.TextOperation.TheVariants as text
use Rattle.sc_text.specs.Phrases.{Phrase}
use Rattle.sc_text.specs.declared.drafts.parts.Declaration.{Declaration}
use Rattle.sc_text.specs.Flaws.{place_among}

-- the number of the variable of this name
abbrev pub number_of : (names : List (List ℕ)) → List ℕ → ℕ
number_of names name = unwrap_or (place_among names name) 0

abbrev pub operation_of : (names : List (List ℕ)) → TextOperation → Operation
operation_of names (text.Literal v) = op.Literal v
operation_of names (text.Load name at) = op.Load (number_of names name)
operation_of names (text.Unary f) = op.Unary f
operation_of names (text.Binary f) = op.Binary f

abbrev pub code_of : (names : List (List ℕ)) → Phrase → List Operation
code_of names p = map (operation_of names) p

-- the tree that the operations of a phrase spell
abbrev pub expression_of : (names : List (List ℕ)) → Phrase → Expr
expression_of names p = unwrap_or (tree_of (code_of names p)) (tree.Literal (value.Bool false))

abbrev pub variable_of : Declaration → Variable
variable_of x = record { name = x.named.name; kind = x.kind; role = x.role }

abbrev pub variables_of : List Declaration → List Variable
variables_of variables = map variable_of variables
