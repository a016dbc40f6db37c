-- What counting down does to a counter.
use Rattle.std.proofs.Common.{◌≡◌, ℕ, suc, ◌<◌, pos, ◌-ℤ◌, true, false, Some, List, [], slice_get, refl, sym, ap, ◌∙◌}
use Rattle.std.specs.Prelude.{nat_eq}
use Rattle.std.specs.List.{list_any}
use Rattle.std.specs.Int.{int_wrap, w32}
use Rattle.std.proofs.lemmas.Int.{int_wrap_fits, fits_signed_from_abs}
use Rattle.std.proofs.Math.IntN.{ -ℤ_one}
use Rattle.sc_values.specs.declared.value.Value.{Value}
use Rattle.sc_values.specs.declared.value.Value.TheVariants as value_is
use Rattle.sc_values.specs.declared.operator.BinaryOperator.TheVariants as binary
use Rattle.sc_values.specs.declared.operator.UnaryOperator.TheVariants as unary
use Rattle.sc_values.specs.declared.operator.Combination.TheVariants as combine
use Rattle.sc_values.specs.declared.expression.Expr.{Expr}
use Rattle.sc_values.specs.declared.expression.Expr.TheOpen as tree
use Rattle.sc_values.specs.declared.expression.Expr.TheViews.{roll-Expr, out-Expr, out-roll-Expr}
use Rattle.sc_values.specs.declared.expression.Expr.TheVariants as expr
use Rattle.sc_values.specs.declared.expression.Expr.TheVariants.{rolls-Load, rolls-Binary}
use Rattle.sc_values.specs.Expr.{value as value_of}
use Rattle.sc_values.specs.Access.{Update}
use Rattle.sc_values.specs.Assignment.{reads, is_variable, is_read, decreased, assignment_of, assignment_of_root, access_of_assignment}
use Rattle.sc_values.proofs.Loading.{loads-unary}
use Rattle.scl_graph_laws.proofs.Targets.{same_number}
use Rattle.abort_expansion.specs.Transitions.{number, count_down}
use Rattle.abort_expansion_laws.proofs.Supplying.{combines}
use Rattle.abort_expansion_laws.proofs.MoreValues.{of_flag}
use Rattle.abort_expansion_laws.proofs.FlagAccess.{number_reads}

-- numbers that fit are counted down by one
pub one_below : (m : ℕ) → m < 2147483648 → int_wrap w32 (pos (suc m) -ℤ pos 1) ≡ pos m
one_below m few = ap (int_wrap w32) (-ℤ_one (pos (suc m))) ∙ int_wrap_fits w32 (pos m) (fits_signed_from_abs w32 (pos m) few)

pub counted_value : (x m : ℕ) (values : List Value) → m < 2147483648 → slice_get values x ≡ Some (value_is.Int (pos (suc m))) →
    value_of (count_down x).value values ≡ Some (value_is.Int (pos m))
counted_value x m values few is = of_flag binary.Subtract x (suc m) 1 values is ∙ ap (λ z. Some (value_is.Int z)) (one_below m few)

minus_reads : reads (roll-Expr (tree.Unary unary.Negate (number 1))) ≡ []
minus_reads = loads-unary unary.Negate (number 1) ∙ number_reads 1

is_itself : (x : ℕ) → is_variable x (out-Expr (expr.Load x)) ≡ true
is_itself x = ap (λ e. is_variable x (out-Expr e)) (sym (rolls-Load x)) ∙ (ap (is_variable x) (out-roll-Expr (tree.Load x)) ∙ same_number x)

not_read : (x : ℕ) → is_read x (number 1) ≡ false
not_read x = ap (list_any (nat_eq x)) (number_reads 1)

abbrev rolled : ℕ → Expr
rolled x = roll-Expr (tree.Binary binary.Subtract (expr.Load x) (number 1))

pub counted_access : (x : ℕ) → access_of_assignment x (assignment_of x (count_down x).value) ≡ combines x combine.Add
counted_access x =
    let one : assignment_of_root x (rolled x) (tree.Binary binary.Subtract (expr.Load x) (number 1)) ≡ decreased (number 1) =
    rw (is_itself x, not_read x) refl in
    ap (λ e. access_of_assignment x (assignment_of x e)) (sym (rolls-Binary binary.Subtract (expr.Load x) (number 1)))
    ∙ (ap (λ y. access_of_assignment x (assignment_of_root x (rolled x) y)) (out-roll-Expr (tree.Binary binary.Subtract (expr.Load x) (number 1)))
    ∙ (ap (access_of_assignment x) one ∙ ap (λ rs. record { reads = rs; writes = Update x combine.Add }) minus_reads))
