-- What a node does, as text, and at which node its thread goes on.
use Rattle.std.specs.Prelude.{ℕ, Option, Some, None, List, [], ◌∷◌, ◌++◌, codes}
use Rattle.std.specs.Fmt.{decimal}
use Rattle.sc_values.specs.declared.operation.Operation.{Operation}
use Rattle.sc_values.specs.declared.operator.Combination.{Combination}
use Rattle.sc_values.specs.declared.expression.Expr.{Expr}
use Rattle.sc_values.specs.declared.expression.Expr.TheVariants as expr
use Rattle.sc_values.specs.Code.{tree_of}
use Rattle.sc_values.specs.Operator.{operator_of}
use Rattle.sc_graph.specs.declared.program.Variable.{Variable}
use Rattle.sc_graph.specs.declared.program.Step.{Step}
use Rattle.sc_graph.specs.declared.program.Step.TheVariants as step
use Rattle.scl_printer.specs.Expressions.{variable_text, expression_text}

-- an expression as it is printed, or that there is none
abbrev pub spelt_text : List Variable → Option Expr → List ℕ
spelt_text variables None = codes "?"
spelt_text variables (Some e) = expression_text variables e

-- the expression that a code spells
abbrev pub code_text : List Variable → List Operation → List ℕ
code_text variables code = spelt_text variables (tree_of code)

-- a variable combined with the value of an expression
unfoldable pub combination : ℕ → Combination → Expr → Expr
combination x f e = expr.Binary (operator_of f) (expr.Load x) e

abbrev pub combined_text : List Variable → ℕ → Combination → Option Expr → List ℕ
combined_text variables x f None = codes "?"
combined_text variables x f (Some e) = expression_text variables (combination x f e)

abbrev pub becomes : List ℕ → List ℕ → ℕ → List ℕ
becomes name value next = name ++ (codes " = " ++ (value ++ (codes " -> " ++ decimal next)))

abbrev pub assigned_text : List Variable → ℕ → List Operation → ℕ → List ℕ
assigned_text variables x code next = becomes (variable_text variables x) (code_text variables code) next

abbrev pub updated_text : List Variable → ℕ → Combination → List Operation → ℕ → List ℕ
updated_text variables x f code next =
    becomes (variable_text variables x) (combined_text variables x f (tree_of code)) next

-- each with a space before it
abbrev pub numbers_text : List ℕ → List ℕ
numbers_text [] = []
numbers_text (n ∷ ns) = codes " " ++ (decimal n ++ numbers_text ns)

abbrev pub step_text : List Variable → Step → List ℕ
step_text variables (step.Assign x code next) = assigned_text variables x code next
step_text variables (step.Update x f code next) = updated_text variables x f code next
step_text variables (step.Cond code on_true on_false) =
    codes "if (" ++ (code_text variables code ++ (codes ") -> " ++ (decimal on_true ++ (codes " else " ++ decimal on_false))))
step_text variables (step.Fork children join) =
    codes "fork" ++ (numbers_text children ++ (codes " join " ++ decimal join))
step_text variables (step.Join next) = codes "join -> " ++ decimal next
step_text variables (step.Surf depth) = codes "pause -> " ++ decimal depth
step_text variables (step.Depth next) = codes "resume -> " ++ decimal next
step_text variables step.Exit = codes "exit"
