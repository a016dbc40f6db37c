-- What both languages have: names, expressions and variables, with their rules and limits.
use Rattle.std.specs.Prelude.{ℕ, ℤ, pos, negsuc, ◌≡◌, ◌≤◌, Bool, true, false, IsTrue, not, ◌&&◌, Some, List, [], ◌∷◌, map, slice_get, length, count_by}
use Rattle.std.specs.List.{list_any}
use Rattle.std.specs.Str.{bytes_eq}
use Rattle.std.specs.Ordering.{int_eq}
use Rattle.sc_values.specs.declared.value.Value.{Value}
use Rattle.sc_values.specs.declared.value.Value.TheVariants as value
use Rattle.sc_values.specs.declared.value.Kind.{Kind}
use Rattle.sc_values.specs.declared.operator.UnaryOperator.{UnaryOperator}
use Rattle.sc_values.specs.declared.operator.UnaryOperator.TheVariants as unary
use Rattle.sc_values.specs.declared.expression.Expr.{Expr}
use Rattle.sc_values.specs.declared.expression.Expr.TheOpen.{Expr-F}
use Rattle.sc_values.specs.declared.expression.Expr.TheOpen as tree
use Rattle.sc_values.specs.declared.expression.Expr.TheFolds.{fold-Expr}
use Rattle.sc_values.specs.Expr.{kind, postorder}
use Rattle.sc_values.specs.Code.{IsWithinLimits}
use Rattle.sc_graph.specs.declared.program.Variable.{Variable}
use Rattle.sc_graph.specs.Limits.{variable_limit, output_limit}
use Rattle.sc_graph.specs.Size.{is_output}
use Rattle.sc_text.specs.declared.language.Language.{Language}
use Rattle.sc_text.specs.Tokens.{allows, IsReserved}

-- what a language takes for a name: no reserved word, and in charts nothing that begins with `_`
pub record IsNameIn (l : Language) (name : List ℕ) : Type 0 where
  pub free : ¬ IsReserved name
  pub begins : (first : ℕ) → slice_get name 0 ≡ Some first → IsTrue (allows l first)

-- texts write no sign before a number of their own
abbrev pub is_natural : ℤ → Bool
is_natural (pos n) = true
is_natural (negsuc n) = false

abbrev pub is_writable_literal : Value → Bool
is_writable_literal (value.Bool b) = true
is_writable_literal (value.Int n) = is_natural n

-- -2147483648 is no divisor, since 2147483648 is no number of a text
abbrev pub is_writable_unary : UnaryOperator → Bool
is_writable_unary (unary.Divide d) = not (int_eq d.number (negsuc 2147483647))
is_writable_unary (unary.Remainder d) = not (int_eq d.number (negsuc 2147483647))
is_writable_unary f = true

abbrev pub writable_step : Expr-F Bool → Bool
writable_step (tree.Literal v) = is_writable_literal v
writable_step (tree.Load x) = true
writable_step (tree.Unary f a) = is_writable_unary f && a
writable_step (tree.Binary f a b) = a && b

-- whether a text can write the expression: no literal is negative, and no divisor is -2147483648
abbrev pub is_writable : Expr → Bool
is_writable = fold-Expr Bool writable_step

-- an expression of this kind over variables of these kinds, within the limits of codes, that a text can write
pub record IsExpression (kinds : List Kind) (k : Kind) (e : Expr) : Type 0 where
  pub kinded : kind e kinds ≡ Some k
  pub within : IsWithinLimits (postorder e)
  pub writable : IsTrue (is_writable e)

-- no name stands among those behind it
abbrev pub are_distinct : List (List ℕ) → Bool
are_distinct [] = true
are_distinct (name ∷ names) = not (list_any (bytes_eq name) names) && are_distinct names

-- the variables that a program declares
pub record AreVariables (l : Language) (variables : List Variable) : Type 0 where
  pub count : length variables ≤ variable_limit
  pub outputs : count_by (λ x. is_output x.role) variables ≤ output_limit
  pub named : (i : ℕ) (x : Variable) → slice_get variables i ≡ Some x → IsNameIn l x.name
  pub distinct : IsTrue (are_distinct (map (λ x. x.name) variables))
