-- How an expression is printed: an operand that is itself an operation, prefix or infix, stands in parentheses. Where so
-- more parentheses and prefix operators would be open at once than a reader takes, prefix operations stand in none where
-- they read without.
use Rattle.std.specs.Prelude.{ℕ, zero, suc, Bool, true, false, not, ◌&&◌, if◌then◌else◌, Option, Some, None}
use Rattle.std.specs.Prelude.{List, [], ◌++◌, slice_get, codes}
use Rattle.std.specs.Fmt.{signed_decimal}
use Rattle.sc_values.specs.declared.value.Value.{Value}
use Rattle.sc_values.specs.declared.value.Value.TheVariants as value
use Rattle.sc_values.specs.declared.operator.UnaryOperator.{UnaryOperator}
use Rattle.sc_values.specs.declared.operator.UnaryOperator.TheVariants as unary
use Rattle.sc_values.specs.declared.operator.BinaryOperator.{BinaryOperator}
use Rattle.sc_values.specs.declared.operator.BinaryOperator.TheVariants as binary
use Rattle.sc_values.specs.declared.expression.Expr.{Expr}
use Rattle.sc_values.specs.declared.expression.Expr.TheOpen.{Expr-F}
use Rattle.sc_values.specs.declared.expression.Expr.TheOpen as tree
use Rattle.sc_values.specs.declared.expression.Expr.TheFolds.{fold-Expr}
use Rattle.sc_graph.specs.declared.program.Variable.{Variable}
use Rattle.sc_text.specs.Expression.{open_limit}
use Rattle.scl_printer.specs.declared.parentheses.Parentheses.{Parentheses}
use Rattle.scl_printer.specs.declared.parentheses.Parentheses.TheVariants as parentheses
use Rattle.scl_printer.specs.declared.parentheses.Form.{Form}
use Rattle.scl_printer.specs.declared.parentheses.Form.TheVariants as form

abbrev pub value_text : Value → List ℕ
value_text (value.Bool true) = codes "true"
value_text (value.Bool false) = codes "false"
value_text (value.Int n) = signed_decimal n

abbrev pub named : Option Variable → List ℕ
named None = []
named (Some v) = v.name

-- the name of the variable of this number
abbrev pub variable_text : List Variable → ℕ → List ℕ
variable_text variables x = named (slice_get variables x)

-- what stands before the operand of an operator, and what behind it
abbrev pub prefix_text : UnaryOperator → List ℕ
prefix_text unary.Negate = codes "-"
prefix_text unary.Not = codes "not "
prefix_text f = []

abbrev pub divisor_text : UnaryOperator → List ℕ
divisor_text (unary.Divide d) = codes " / " ++ signed_decimal d.number
divisor_text (unary.Remainder d) = codes " % " ++ signed_decimal d.number
divisor_text f = []

-- what stands before, between and behind two operands
abbrev pub opening_text : BinaryOperator → List ℕ
opening_text binary.Min = codes "min("
opening_text binary.Max = codes "max("
opening_text f = []

abbrev pub infix_text : BinaryOperator → List ℕ
infix_text binary.Add = codes " + "
infix_text binary.Subtract = codes " - "
infix_text binary.Multiply = codes " * "
infix_text binary.Min = codes ", "
infix_text binary.Max = codes ", "
infix_text binary.And = codes " and "
infix_text binary.Or = codes " or "
infix_text binary.Equal = codes " == "
infix_text binary.NotEqual = codes " != "
infix_text binary.Less = codes " < "
infix_text binary.LessOrEqual = codes " <= "
infix_text binary.Greater = codes " > "
infix_text binary.GreaterOrEqual = codes " >= "

abbrev pub closing_text : BinaryOperator → List ℕ
closing_text binary.Min = codes ")"
closing_text binary.Max = codes ")"
closing_text f = []

-- whether it stands between its operands
abbrev pub is_infix : BinaryOperator → Bool
is_infix binary.Min = false
is_infix binary.Max = false
is_infix f = true

-- ---- parentheses

abbrev pub unary_form : UnaryOperator → Form
unary_form unary.Negate = form.Minus
unary_form unary.Not = form.Not
unary_form (unary.Divide d) = form.Infix
unary_form (unary.Remainder d) = form.Infix

abbrev pub binary_form : BinaryOperator → Form
binary_form f = if is_infix f then form.Infix else form.Whole

abbrev pub is_operation : Form → Bool
is_operation form.Whole = false
is_operation form.Minus = true
is_operation form.Not = true
is_operation form.Infix = true

-- an operand may begin with `not`
abbrev pub unary_takes_not : UnaryOperator → Bool
unary_takes_not unary.Not = true
unary_takes_not f = false

abbrev pub binary_takes_not : BinaryOperator → Bool
binary_takes_not binary.And = true
binary_takes_not binary.Or = true
binary_takes_not f = false

-- an operand of this form does not read without parentheses
abbrev pub is_torn : (takes_not : Bool) → Form → Bool
is_torn takes_not form.Whole = false
is_torn takes_not form.Minus = false
is_torn takes_not form.Not = not takes_not
is_torn takes_not form.Infix = true

-- whether an operand of this form stands in parentheses
abbrev pub is_enclosed : Parentheses → (takes_not : Bool) → Form → Bool
is_enclosed parentheses.Each takes_not f = is_operation f
is_enclosed parentheses.Few takes_not f = is_torn takes_not f

-- what an expression opens as it is printed: its form, and whether no more than so many parentheses and prefix operators
-- are open at once
pub record Opens : Type 0 where
  pub form : Form
  pub at_most : ℕ → Bool

-- how many more may be open within one that is open, where so many may: None where it may not
abbrev pub left_within : (is_open : Bool) → ℕ → Option ℕ
left_within false n = Some n
left_within true zero = None
left_within true (suc n) = Some n

abbrev pub with_left : (ℕ → Bool) → Option ℕ → Bool
with_left at_most None = false
with_left at_most (Some n) = at_most n

abbrev pub one_more_if : (is_open : Bool) → (ℕ → Bool) → ℕ → Bool
one_more_if is_open at_most n = with_left at_most (left_within is_open n)

abbrev pub is_prefix : UnaryOperator → Bool
is_prefix unary.Negate = true
is_prefix unary.Not = true
is_prefix (unary.Divide d) = false
is_prefix (unary.Remainder d) = false

abbrev pub operand_opens : Parentheses → Bool → Opens → ℕ → Bool
operand_opens p takes_not a = one_more_if (is_enclosed p takes_not a.form) a.at_most

abbrev pub opens_step : Parentheses → Expr-F Opens → Opens
opens_step p (tree.Literal v) = record { form = form.Whole; at_most = λ n. true }
opens_step p (tree.Load x) = record { form = form.Whole; at_most = λ n. true }
opens_step p (tree.Unary f a) =
    record { form = unary_form f; at_most = one_more_if (is_prefix f) (operand_opens p (unary_takes_not f) a) }
opens_step p (tree.Binary f a b) =
    record {
      form = binary_form f;
      at_most = one_more_if (not (is_infix f))
          (λ n. operand_opens p (binary_takes_not f) a n && operand_opens p (binary_takes_not f) b n);
    }

abbrev pub opens : Parentheses → Expr → Opens
opens p = fold-Expr Opens (opens_step p)

-- which parentheses an expression is printed with
abbrev pub parentheses_of : Expr → Parentheses
parentheses_of e = if (opens parentheses.Each e).at_most open_limit then parentheses.Each else parentheses.Few

-- ---- texts

-- an expression as it is printed, and its form
pub record Shown : Type 0 where
  pub text : List ℕ
  pub form : Form

abbrev pub enclosed_if : Bool → List ℕ → List ℕ
enclosed_if true text = codes "(" ++ (text ++ codes ")")
enclosed_if false text = text

abbrev pub operand : Parentheses → (takes_not : Bool) → Shown → List ℕ
operand p takes_not e = enclosed_if (is_enclosed p takes_not e.form) e.text

abbrev pub shown_step : Parentheses → List Variable → Expr-F Shown → Shown
shown_step p variables (tree.Literal v) = record { text = value_text v; form = form.Whole }
shown_step p variables (tree.Load x) = record { text = variable_text variables x; form = form.Whole }
shown_step p variables (tree.Unary f a) =
    record { text = prefix_text f ++ (operand p (unary_takes_not f) a ++ divisor_text f); form = unary_form f }
shown_step p variables (tree.Binary f a b) =
    record {
      text = opening_text f
          ++ (operand p (binary_takes_not f) a ++ (infix_text f ++ (operand p (binary_takes_not f) b ++ closing_text f)));
      form = binary_form f;
    }

abbrev pub shown : Parentheses → List Variable → Expr → Shown
shown p variables = fold-Expr Shown (shown_step p variables)

abbrev pub expression_text : List Variable → Expr → List ℕ
expression_text variables e = (shown (parentheses_of e) variables e).text
