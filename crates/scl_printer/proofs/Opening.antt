-- What an operand opens, with the parentheses in which it stands.
use Rattle.std.proofs.Common.{◌≡◌, ℕ, Bool, true, false, not, ◌&&◌, Option, ap, sym, ◌∙◌}
use Rattle.sc_values.specs.declared.operator.UnaryOperator.{UnaryOperator}
use Rattle.sc_values.specs.declared.operator.BinaryOperator.{BinaryOperator}
use Rattle.sc_values.specs.declared.expression.Expr.{Expr}
use Rattle.sc_values.specs.declared.expression.Expr.TheVariants as expr
use Rattle.scl_printer.specs.declared.parentheses.Parentheses.{Parentheses}
use Rattle.scl_printer.specs.declared.parentheses.Form.{Form}
use Rattle.scl_printer.specs.Expressions.{Opens, opens, opens_step, is_enclosed, is_prefix, is_infix, left_within, with_left, operand_opens, unary_takes_not}
use Rattle.scl_printer.specs.Expressions.{binary_takes_not}
use Rattle.scl_printer.proofs.OpenTrees.{opens_unary, opens_binary}

pub operand_left : (p : Parentheses) (takes_not : Bool) (o : Opens) (n : ℕ) (f : Form) (b : Bool) (r : Option ℕ) → b ≡ is_enclosed p takes_not f → f ≡ o.form
    → r ≡ left_within b n → operand_opens p takes_not o n ≡ with_left o.at_most r
operand_left p takes_not o n f b r e g h =
    sym (ap (with_left o.at_most) (h ∙ ap (λ x. left_within x n) (e ∙ ap (is_enclosed p takes_not) g)))

pub unary_left : (p : Parentheses) (e : Expr) (f : UnaryOperator) (a : Expr) (n : ℕ) (b : Bool) (r : Option ℕ) → e ≡ expr.Unary f a → b ≡ is_prefix f
    → r ≡ left_within b n → (opens p e).at_most n ≡ with_left (operand_opens p (unary_takes_not f) (opens p a)) r
unary_left p e f a n b r is g h =
    ap (λ x. (opens p x).at_most n) is
    ∙ ap (λ (o : Opens). o.at_most n) (opens_unary p f a)
    ∙ sym (ap (with_left (operand_opens p (unary_takes_not f) (opens p a))) (h ∙ ap (λ x. left_within x n) g))

pub binary_left : (p : Parentheses) (e : Expr) (f : BinaryOperator) (a b : Expr) (n : ℕ) (i : Bool) (r : Option ℕ) → e ≡ expr.Binary f a b
    → i ≡ not (is_infix f)
    → r ≡ left_within i n
    → (opens p e).at_most n ≡ with_left (λ m. operand_opens p (binary_takes_not f) (opens p a) m && operand_opens p (binary_takes_not f) (opens p b) m) r
binary_left p e f a b n i r is g h =
    ap (λ x. (opens p x).at_most n) is
    ∙ ap (λ (o : Opens). o.at_most n) (opens_binary p f a b)
    ∙ sym (ap (with_left (λ m. operand_opens p (binary_takes_not f) (opens p a) m && operand_opens p (binary_takes_not f) (opens p b) m)) (h ∙ ap
    (λ x. left_within x n) g))
