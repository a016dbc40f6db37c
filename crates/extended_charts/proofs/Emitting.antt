-- A signal is made false by an init, and emitted by an update.
use Rattle.std.proofs.Common.{◌≡◌, ℕ, Bool, true, false, refl, sym, ap, ◌∙◌}
use Rattle.std.specs.Prelude.{nat_eq}
use Rattle.std.specs.List.{list_any}
use Rattle.std.proofs.lemmas.Bool.Decides.{Decides-eqb}
use Rattle.sc_values.specs.declared.value.Value.TheVariants as value
use Rattle.sc_values.specs.declared.operator.BinaryOperator.TheVariants as operator
use Rattle.sc_values.specs.declared.operator.Combination.TheVariants as combine
use Rattle.sc_values.specs.declared.expression.Expr.{Expr}
use Rattle.sc_values.specs.declared.expression.Expr.TheOpen as tree
use Rattle.sc_values.specs.declared.expression.Expr.TheViews.{roll-Expr, out-Expr, out-roll-Expr}
use Rattle.sc_values.specs.declared.expression.Expr.TheVariants as expr
use Rattle.sc_values.specs.declared.expression.Expr.TheVariants.{rolls-Literal, rolls-Load, rolls-Binary}
use Rattle.sc_values.specs.Assignment.{is_variable, is_read, assignment_of, assignment_of_root, Inits, Combines}
use Rattle.sc_values.proofs.Loading.{loads-literal}
use Rattle.extended_charts.specs.Signals.{emission, reset}

abbrev truth : Bool → Expr
truth b = expr.Literal (value.Bool b)

same_number : (x : ℕ) → nat_eq x x ≡ true
same_number x = (Decides-eqb x x).1 refl

is_itself : (x : ℕ) → is_variable x (out-Expr (expr.Load x)) ≡ true
is_itself x = ap (λ e. is_variable x (out-Expr e)) (sym (rolls-Load x)) ∙ (ap (is_variable x) (out-roll-Expr (tree.Load x)) ∙ same_number x)

not_read : (x : ℕ) (b : Bool) → is_read x (truth b) ≡ false
not_read x b = ap (is_read x) (sym (rolls-Literal (value.Bool b))) ∙ ap (list_any (nat_eq x)) (loads-literal (value.Bool b))

abbrev rolled : ℕ → Expr
rolled x = roll-Expr (tree.Binary operator.Or (expr.Load x) (truth true))

pub emission_is_update : (signal : ℕ) → assignment_of signal (emission signal).value ≡ Combines combine.Or (truth true)
emission_is_update x =
    let one : assignment_of_root x (rolled x) (tree.Binary operator.Or (expr.Load x) (truth true)) ≡ Combines combine.Or (truth true) =
    rw (is_itself x, not_read x true) refl in
    ap (assignment_of x) (sym (rolls-Binary operator.Or (expr.Load x) (truth true)))
    ∙ (ap (assignment_of_root x (rolled x)) (out-roll-Expr (tree.Binary operator.Or (expr.Load x) (truth true))) ∙ one)

pub reset_is_init : (signal : ℕ) → assignment_of signal (reset signal).value ≡ Inits (truth false)
reset_is_init x =
    ap (assignment_of x) (sym (rolls-Literal (value.Bool false)))
    ∙ (ap (assignment_of_root x (roll-Expr (tree.Literal (value.Bool false)))) (out-roll-Expr (tree.Literal (value.Bool false)))
    ∙ ap Inits (rolls-Literal (value.Bool false)))
