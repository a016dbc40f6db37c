-- Postfix codes: the tree that a code spells, and what a code needs to be well formed.
use Rattle.std.specs.Prelude.{ℕ, ◌≡◌, ◌≤◌, Option, Some, None, List, [], ◌∷◌, length, take, option_and_then, filter_map, Bool, true, false}
use Rattle.sc_values.specs.declared.value.Value.{Value}
use Rattle.sc_values.specs.declared.value.Kind.{Kind}
use Rattle.sc_values.specs.declared.operation.Operation.{Operation}
use Rattle.sc_values.specs.declared.operation.Operation.TheVariants as op
use Rattle.sc_values.specs.declared.expression.Expr.{Expr}
use Rattle.sc_values.specs.declared.expression.Expr.TheOpen as tree
use Rattle.sc_values.specs.declared.expression.Expr.TheViews.{roll-Expr}
use Rattle.sc_values.specs.Expr.{postorder, value, kind}
use Rattle.sc_values.specs.Limits.{operation_limit, operand_limit, load_limit}

-- a code spells the one tree whose postorder it is
abbrev pub Spells : List Operation → Expr → Type 0
Spells code e = postorder e ≡ code

-- one operation over a stack of trees, the topmost first
abbrev pub grown : Operation → List Expr → Option (List Expr)
grown (op.Literal v) stack = Some (roll-Expr (tree.Literal v) ∷ stack)
grown (op.Load x) stack = Some (roll-Expr (tree.Load x) ∷ stack)
grown (op.Unary f) (a ∷ stack) = Some (roll-Expr (tree.Unary f a) ∷ stack)
grown (op.Binary f) (b ∷ a ∷ stack) = Some (roll-Expr (tree.Binary f a b) ∷ stack)
grown o stack = None

-- the trees that stand after a code, the topmost first; None where an operand is missing
abbrev pub trees : List Operation → List Expr → Option (List Expr)
trees [] stack = Some stack
trees (o ∷ code) stack = option_and_then (trees code) (grown o stack)

abbrev pub only : List Expr → Option Expr
only (e ∷ []) = Some e
only stack = None

-- the tree that a code spells, or None
abbrev pub tree_of : List Operation → Option Expr
tree_of code = option_and_then only (trees code [])

-- the value, over the variables, of the tree that a code spells
abbrev pub code_value : List Operation → List Value → Option Value
code_value code variables = option_and_then (λ e. value e variables) (tree_of code)

-- the kind, over the variables' kinds, of the tree that a code spells
abbrev pub code_kind : List Operation → List Kind → Option Kind
code_kind code kinds = option_and_then (λ e. kind e kinds) (tree_of code)

-- the variables that a code loads, in the order of its loads
abbrev pub loaded : Operation → Option ℕ
loaded (op.Load x) = Some x
loaded o = None

abbrev pub loads : List Operation → List ℕ
loads code = filter_map loaded code

-- the literal, where the code is nothing but that
abbrev pub literal_of : List Operation → Option Value
literal_of (op.Literal v ∷ []) = Some v
literal_of code = None

-- no limit of codes is passed
pub record IsWithinLimits (code : List Operation) : Type 0 where
  pub operations : length code ≤ operation_limit
  pub operands : (n : ℕ) (stack : List Expr) → trees (take n code) [] ≡ Some stack → length stack ≤ operand_limit
  pub loaded : length (loads code) ≤ load_limit

-- a code that spells a well-kinded tree within the limits
pub record IsWellFormed (kinds : List Kind) (code : List Operation) : Type 0 where
  pub spelt : Expr
  pub spells : Spells code spelt
  pub gives : Kind
  pub kinded : kind spelt kinds ≡ Some gives
  pub within : IsWithinLimits code

-- a value, where there is one
abbrev pub some_if : {A : Type 0} → Bool → A → Option A
some_if false x = None
some_if true x = Some x
