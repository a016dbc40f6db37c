-- `==` decides equality.
use Rattle.std.proofs.Common.{◌≡◌, Bool, true, false, List, sym, ap, ◌∙◌, rules}
use Rattle.std.specs.Bool.{Decides}
use Rattle.std.proofs.lemmas.Bool.Decides.{Decides-int_eq}
use Rattle.sc_values.specs.declared.divisor.Divisor.{Divisor}
use Rattle.sc_values.specs.declared.operator.UnaryOperator.{UnaryOperator}
use Rattle.sc_values.specs.declared.operator.UnaryOperator.TheVariants as prefix
use Rattle.sc_values.specs.declared.operation.Operation.{Operation}
use Rattle.sc_values.specs.declared.operation.Operation.TheVariants as op
use Rattle.sc_values.specs.declared.value.Value.{Value}
use Rattle.sc_values.specs.declared.value.Kind.{Kind}
use Rattle.sc_values.specs.Checked.{Checked}
use Rattle.sc_values.specs.contracts.divisor.DivisorPartialEq.TheImpl as divisor
use Rattle.sc_values.specs.contracts.operator.UnaryOperatorPartialEq.TheImpl as unary
use Rattle.sc_values.specs.contracts.operation.OperationPartialEq.TheImpl as operation
use Rattle.sc_values.specs.contracts.value.ValuePartialEq.TheImpl as value
use Rattle.sc_values.specs.contracts.value.KindPartialEq.TheImpl as kind
use Rattle.sc_values.proofs.Division.{same_divisor}

pub value_decides : (a b : Value) → Decides (value.eq-value.it a b) (a ≡ b)
value_decides a b = (λ h. search rules, λ e. search rules)

pub kind_decides : (a b : Kind) → Decides (kind.eq-value.it a b) (a ≡ b)
kind_decides a b = (λ h. search rules, λ e. search rules)

pub divisor_decides : (c d : Divisor) → Decides (divisor.eq-value.it c d) (c ≡ d)
divisor_decides c d =
    let numbers = Decides-int_eq c.number d.number in (λ h. same_divisor c d (numbers.0 h), λ e. numbers.1 (ap (λ x. x.number) e))

unary_decides : (f g : UnaryOperator) → Decides (unary.eq-value.it f g) (f ≡ g)
unary_decides prefix.Negate g = (λ h. search rules, λ e. search rules)
unary_decides prefix.Not g = (λ h. search rules, λ e. search rules)
unary_decides (prefix.Divide c) prefix.Negate = (λ h. absurd cc, λ e. absurd cc)
unary_decides (prefix.Divide c) prefix.Not = (λ h. absurd cc, λ e. absurd cc)
unary_decides (prefix.Divide c) (prefix.Divide d) =
    (λ h. ap prefix.Divide ((divisor_decides c d).0 h), λ e. (divisor_decides c d).1 (let same : c ≡ d = cc in same))
unary_decides (prefix.Divide c) (prefix.Remainder d) = (λ h. absurd cc, λ e. absurd cc)
unary_decides (prefix.Remainder c) prefix.Negate = (λ h. absurd cc, λ e. absurd cc)
unary_decides (prefix.Remainder c) prefix.Not = (λ h. absurd cc, λ e. absurd cc)
unary_decides (prefix.Remainder c) (prefix.Divide d) = (λ h. absurd cc, λ e. absurd cc)
unary_decides (prefix.Remainder c) (prefix.Remainder d) =
    (λ h. ap prefix.Remainder ((divisor_decides c d).0 h), λ e. (divisor_decides c d).1 (let same : c ≡ d = cc in same))

pub operation_decides : (a b : Operation) → Decides (operation.eq-value.it a b) (a ≡ b)
operation_decides (op.Literal v) b = (λ h. search rules, λ e. search rules)
operation_decides (op.Load x) b = (λ h. search rules, λ e. search rules)
operation_decides (op.Unary f) (op.Literal v) = (λ h. absurd cc, λ e. absurd cc)
operation_decides (op.Unary f) (op.Load x) = (λ h. absurd cc, λ e. absurd cc)
operation_decides (op.Unary f) (op.Unary g) =
    (λ h. ap op.Unary ((unary_decides f g).0 h), λ e. (unary_decides f g).1 (let same : f ≡ g = cc in same))
operation_decides (op.Unary f) (op.Binary g) = (λ h. absurd cc, λ e. absurd cc)
operation_decides (op.Binary f) b = (λ h. search rules, λ e. search rules)

not_both : (answer : Bool) → answer ≡ false → answer ≡ true → ⊥
not_both answer fails holds = cc

checked_same : (a b : Checked) → a.operations ≡ b.operations → a.loads ≡ b.loads → a ≡ b
checked_same a b operations loads i = record { operations = operations i; loads = loads i }

-- where the operations are equal, a test of the loads decides
pub same_operations : (a b : Checked) (xs ys : List Operation) (answer : Bool) → xs ≡ a.operations → ys ≡ b.operations →
    xs ≡ ys → Decides answer (a.loads ≡ b.loads) → Decides answer (a ≡ b)
same_operations a b xs ys answer of_a of_b operations loads =
    (λ holds. checked_same a b (sym of_a ∙ (operations ∙ of_b)) (loads.0 holds), λ same. loads.1 (ap (λ c. c.loads) same))

-- where a test of the operations fails, the codes differ
pub other_operations : (a b : Checked) (xs ys : List Operation) (answer : Bool) → xs ≡ a.operations → ys ≡ b.operations →
    Decides answer (xs ≡ ys) → answer ≡ false → Decides answer (a ≡ b)
other_operations a b xs ys answer of_a of_b operations fails =
    (λ holds. absurd (not_both answer fails holds), λ same. operations.1 (of_a ∙ (ap (λ c. c.operations) same ∙ sym of_b)))
