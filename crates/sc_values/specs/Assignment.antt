-- What an assignment `x = e` is: an init of x, or an update of it by a combination.
use Rattle.std.specs.Prelude.{ℕ, Bool, false, not, ◌&&◌, nat_eq, Option, Some, None, List, unwrap_or, if◌then◌else◌}
use Rattle.std.specs.List.{list_any}
use Rattle.sc_values.specs.declared.operator.BinaryOperator.{BinaryOperator}
use Rattle.sc_values.specs.declared.operator.BinaryOperator.TheVariants as binary
use Rattle.sc_values.specs.declared.operator.UnaryOperator.TheVariants as unary
use Rattle.sc_values.specs.declared.operator.Combination.{Combination}
use Rattle.sc_values.specs.declared.operator.Combination.TheVariants as combine
use Rattle.sc_values.specs.declared.expression.Expr.{Expr}
use Rattle.sc_values.specs.declared.expression.Expr.TheOpen.{Expr-F}
use Rattle.sc_values.specs.declared.expression.Expr.TheOpen as tree
use Rattle.sc_values.specs.declared.expression.Expr.TheViews.{out-Expr, roll-Expr}
use Rattle.sc_values.specs.declared.assignment.CodedAssignment.{CodedAssignment}
use Rattle.sc_values.specs.declared.assignment.CodedAssignment.TheVariants as coded
use Rattle.sc_values.specs.Access.{Access, Init, Update}
use Rattle.sc_values.specs.Code.{loads, literal_of}
use Rattle.sc_values.specs.Expr.{postorder}

-- the value of an expression for a variable, or one by which its own value is combined
pub data Assignment : Type 0 where
  Inits : (e : Expr) → Assignment
  Combines : (f : Combination) (e : Expr) → Assignment

-- the variables that an expression reads, in its postfix order
abbrev pub reads : Expr → List ℕ
reads e = loads (postorder e)

abbrev pub is_read : ℕ → Expr → Bool
is_read x e = list_any (nat_eq x) (reads e)

-- whether an expression is this variable and no more
abbrev pub is_variable : ℕ → Expr-F Expr → Bool
is_variable x (tree.Load y) = nat_eq x y
is_variable x other = false

-- an expression is taken off the variable: it is combined with the negated expression by a sum
abbrev pub decreased : Expr → Assignment
decreased b = Combines combine.Add (roll-Expr (tree.Unary unary.Negate b))

-- the update of a variable that this operator makes, with the variable on its left and b on its right
abbrev pub combination_of : BinaryOperator → Expr → Option Assignment
combination_of binary.Add b = Some (Combines combine.Add b)
combination_of binary.Subtract b = Some (decreased b)
combination_of binary.Multiply b = Some (Combines combine.Multiply b)
combination_of binary.Min b = Some (Combines combine.Min b)
combination_of binary.Max b = Some (Combines combine.Max b)
combination_of binary.And b = Some (Combines combine.And b)
combination_of binary.Or b = Some (Combines combine.Or b)
combination_of f b = None

abbrev pub assignment_of_root : ℕ → Expr → Expr-F Expr → Assignment
assignment_of_root x e (tree.Binary f a b) =
    if is_variable x (out-Expr a) && not (is_read x b) then unwrap_or (combination_of f b) (Inits e) else Inits e
assignment_of_root x e other = Inits e

-- `x = e` is an update where the root of e combines x alone, on its left, with what does not read x; else an init
abbrev pub assignment_of : ℕ → Expr → Assignment
assignment_of x e = assignment_of_root x e (out-Expr e)

-- what an assignment of x reads and writes
abbrev pub access_of_assignment : ℕ → Assignment → Access
access_of_assignment x (Inits e) = record { reads = reads e; writes = Init x (literal_of (postorder e)) }
access_of_assignment x (Combines f e) = record { reads = reads e; writes = Update x f }

-- the expression of which an assignment needs the value
abbrev pub operand : Assignment → Expr
operand (Inits e) = e
operand (Combines f e) = e

-- an assignment, with the code of that expression in its place
abbrev pub in_code : Assignment → CodedAssignment
in_code (Inits e) = coded.Init (postorder e)
in_code (Combines f e) = coded.Update f (postorder e)
