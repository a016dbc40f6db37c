-- What raising a flag and looking at one do to the variables.
use Rattle.std.proofs.Common.{◌≡◌, ℕ, pos, Some, [], ◌∷◌, ◌++◌, ap, sym, ◌∙◌}
use Rattle.sc_values.specs.declared.value.Value.{Value}
use Rattle.sc_values.specs.declared.value.Value.TheVariants as value_is
use Rattle.sc_values.specs.declared.operator.BinaryOperator.{BinaryOperator}
use Rattle.sc_values.specs.declared.operator.BinaryOperator.TheVariants as binary
use Rattle.sc_values.specs.declared.expression.Expr.{Expr}
use Rattle.sc_values.specs.declared.expression.Expr.TheOpen as tree
use Rattle.sc_values.specs.declared.expression.Expr.TheViews.{roll-Expr, out-roll-Expr}
use Rattle.sc_values.specs.declared.expression.Expr.TheVariants as expr
use Rattle.sc_values.specs.declared.expression.Expr.TheVariants.{rolls-Literal, rolls-Load, rolls-Binary}
use Rattle.sc_values.specs.Access.{Init, Nothing}
use Rattle.sc_values.specs.Code.{literal_of}
use Rattle.sc_values.specs.Expr.{postorder}
use Rattle.sc_values.specs.Assignment.{reads, assignment_of, assignment_of_root, access_of_assignment}
use Rattle.sc_values.proofs.Induction.{postorder-literal}
use Rattle.sc_values.proofs.Loading.{loads-literal, loads-load, loads-binary}
use Rattle.chart_machine.specs.Steps.{access_of_trigger}
use Rattle.abort_expansion.specs.Transitions.{number, is_number, is_raised}
use Rattle.abort_expansion_laws.proofs.Supplying.{tests, sets}

rolled_access : (x : ℕ) (v : Value) → access_of_assignment x (assignment_of x (roll-Expr (tree.Literal v))) ≡ sets x v
rolled_access x v =
    let e : Expr = roll-Expr (tree.Literal v) in
    ap (λ y. access_of_assignment x (assignment_of_root x e y)) (out-roll-Expr (tree.Literal v))
    ∙ (ap (λ rs. record { reads = rs; writes = Init x (literal_of (postorder e)) }) (loads-literal v)
    ∙ ap (λ code. record { reads = []; writes = Init x (literal_of code) }) (postorder-literal v))

-- a variable becomes a number
pub put_access : (x n : ℕ) → access_of_assignment x (assignment_of x (number n)) ≡ sets x (value_is.Int (pos n))
put_access x n = ap (λ e. access_of_assignment x (assignment_of x e)) (sym (rolls-Literal (value_is.Int (pos n)))) ∙ rolled_access x (value_is.Int (pos n))

pub number_reads : (n : ℕ) → reads (number n) ≡ []
number_reads n = ap reads (sym (rolls-Literal (value_is.Int (pos n)))) ∙ loads-literal (value_is.Int (pos n))

load_reads : (x : ℕ) → reads (expr.Load x) ≡ x ∷ []
load_reads x = ap reads (sym (rolls-Load x)) ∙ loads-load x

compared_reads : (f : BinaryOperator) (x n : ℕ) → reads (expr.Binary f (expr.Load x) (number n)) ≡ x ∷ []
compared_reads f x n =
    ap reads (sym (rolls-Binary f (expr.Load x) (number n)))
    ∙ (loads-binary f (expr.Load x) (number n) ∙ (ap (λ zs. zs ++ reads (number n)) (load_reads x) ∙ ap (λ zs. (x ∷ []) ++ zs) (number_reads n)))

pub raised_access : (x : ℕ) → access_of_trigger (Some (is_raised x)) ≡ tests x
raised_access x = ap (λ zs. record { reads = zs; writes = Nothing }) (compared_reads binary.NotEqual x 0)

pub number_access : (x n : ℕ) → access_of_trigger (Some (is_number x n)) ≡ tests x
number_access x n = ap (λ zs. record { reads = zs; writes = Nothing }) (compared_reads binary.Equal x n)
