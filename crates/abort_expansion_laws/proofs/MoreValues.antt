-- An expression over some variables has the same value over more; what flags and counters give.
use Rattle.std.proofs.Common.{◌≡◌, ◌≢◌, ℕ, Bool, true, false, not, pos, Option, Some, None, List, ◌++◌, slice_get, option_and_then, refl}
use Rattle.std.proofs.Common.{ap, sym, ◌∙◌}
use Rattle.std.specs.Ordering.{int_eq}
use Rattle.std.proofs.lemmas.Bool.Decides.{Decides-int_eq}
use Rattle.std.proofs.lemmas.Bool.{false_from_ne_true}
use Rattle.sc_values.specs.declared.value.Value.{Value}
use Rattle.sc_values.specs.declared.value.Value.TheVariants as value_is
use Rattle.sc_values.specs.declared.operator.BinaryOperator.{BinaryOperator}
use Rattle.sc_values.specs.declared.operator.BinaryOperator.TheVariants as binary
use Rattle.sc_values.specs.declared.operator.UnaryOperator.{UnaryOperator}
use Rattle.sc_values.specs.declared.expression.Expr.{Expr}
use Rattle.sc_values.specs.declared.expression.Expr.TheOpen as tree
use Rattle.sc_values.specs.declared.expression.Expr.TheViews.{roll-Expr}
use Rattle.sc_values.specs.declared.expression.Expr.TheVariants as expr
use Rattle.sc_values.specs.declared.expression.Expr.TheVariants.{rolls-Literal, rolls-Load, rolls-Binary}
use Rattle.sc_values.specs.Operator.{unary_value, binary_value}
use Rattle.sc_values.specs.Expr.{value}
use Rattle.sc_values.proofs.Induction.{induct, value-literal, value-load, value-unary, value-binary}
use Rattle.chart_machine.specs.Steps.{truth, verdict}
use Rattle.abort_expansion.specs.Transitions.{number, is_number, is_raised}
use Rattle.abort_expansion.proofs.Lists.{at_front}

pub record Got {A B : Type 0} (g : A → Option B) (o : Option A) (b : B) : Type 0 where
  pub item : A
  pub is : o ≡ Some item
  pub gives : g item ≡ Some b

pub got : {A B : Type 0} (g : A → Option B) (o : Option A) (b : B) → option_and_then g o ≡ Some b → Got g o b
got g (Some a) b h = record { item = a; is = refl; gives = h }
got g None b h = absurd cc

abbrev Stays : List Value → Expr → Type 0
Stays more e = (values : List Value) (v : Value) → value e values ≡ Some v → value e (values ++ more) ≡ Some v

stays_unary : (more : List Value) (f : UnaryOperator) (a : Expr) → Stays more a → Stays more (roll-Expr (tree.Unary f a))
stays_unary more f a h values v is =
    let inner : Got (unary_value f) (value a values) v = got (unary_value f) (value a values) v (sym (value-unary f a values) ∙ is) in
    value-unary f a (values ++ more) ∙ ap (option_and_then (unary_value f)) (h values inner.item inner.is) ∙ inner.gives

stays_binary : (more : List Value) (f : BinaryOperator) (a b : Expr) → Stays more a → Stays more b → Stays more (roll-Expr (tree.Binary f a b))
stays_binary more f a b h g values v is =
    let Left : List Value → Value → Option Value = λ vs m. option_and_then (binary_value f m) (value b vs) in
    let left : Got (Left values) (value a values) v = got (Left values) (value a values) v (sym (value-binary f a b values) ∙ is) in
    let right : Got (binary_value f left.item) (value b values) v = got (binary_value f left.item) (value b values) v left.gives in
    value-binary f a b (values ++ more)
    ∙ ap (option_and_then (Left (values ++ more))) (h values left.item left.is)
    ∙ ap (option_and_then (binary_value f left.item)) (g values right.item right.is)
    ∙ right.gives

pub value_over_more : (more : List Value) (e : Expr) (values : List Value) (v : Value) → value e values ≡ Some v → value e (values ++ more) ≡ Some v
value_over_more more = induct (Stays more) (record {
  of_literal = λ v values w is. value-literal v (values ++ more) ∙ sym (value-literal v values) ∙ is;
  of_load = λ x values w is. value-load x (values ++ more) ∙ at_front values more x w (sym (value-load x values) ∙ is);
  of_unary = λ f a h. stays_unary more f a h;
  of_binary = λ f a b h g. stays_binary more f a b h g;
})

-- a test comes out the same
pub verdict_over_more : (more values : List Value) (trigger : Option Expr) (b : Bool) → verdict values trigger ≡ Some b →
    verdict (values ++ more) trigger ≡ Some b
verdict_over_more more values None b is = is
verdict_over_more more values (Some e) b is =
    let inner : Got truth (value e values) b = got truth (value e values) b is in
    ap (option_and_then truth) (value_over_more more e values inner.item inner.is) ∙ inner.gives

-- ---- flags

pub number_value : (n : ℕ) (values : List Value) → value (number n) values ≡ Some (value_is.Int (pos n))
number_value n values = ap (λ e. value e values) (sym (rolls-Literal (value_is.Int (pos n)))) ∙ value-literal (value_is.Int (pos n)) values

load_value : (x : ℕ) (values : List Value) → value (expr.Load x) values ≡ slice_get values x
load_value x values = ap (λ e. value e values) (sym (rolls-Load x)) ∙ value-load x values

pub of_flag : (f : BinaryOperator) (x n m : ℕ) (values : List Value) → slice_get values x ≡ Some (value_is.Int (pos n)) →
    value (expr.Binary f (expr.Load x) (number m)) values ≡ binary_value f (value_is.Int (pos n)) (value_is.Int (pos m))
of_flag f x n m values is =
    ap (λ e. value e values) (sym (rolls-Binary f (expr.Load x) (number m)))
    ∙ value-binary f (expr.Load x) (number m) values
    ∙ ap (option_and_then (λ v. option_and_then (binary_value f v) (value (number m) values))) (load_value x values ∙ is)
    ∙ ap (option_and_then (binary_value f (value_is.Int (pos n)))) (number_value m values)

-- a flag is raised where it is not 0, and is number m where it is m
pub raised_verdict : (x n : ℕ) (values : List Value) → slice_get values x ≡ Some (value_is.Int (pos n)) →
    verdict values (Some (is_raised x)) ≡ Some (not (int_eq (pos n) (pos 0)))
raised_verdict x n values is = ap (option_and_then truth) (of_flag binary.NotEqual x n 0 values is)

pub number_verdict : (x n m : ℕ) (values : List Value) → slice_get values x ≡ Some (value_is.Int (pos n)) →
    verdict values (Some (is_number x m)) ≡ Some (int_eq (pos n) (pos m))
number_verdict x n m values is = ap (option_and_then truth) (of_flag binary.Equal x n m values is)

pub lowered_verdict : (x : ℕ) (values : List Value) → slice_get values x ≡ Some (value_is.Int (pos 0)) → verdict values (Some (is_raised x)) ≡ Some false
lowered_verdict x values is = raised_verdict x 0 values is

unequal : (n m : ℕ) → n ≢ m → int_eq (pos n) (pos m) ≡ false
unequal n m differ = false_from_ne_true (int_eq (pos n) (pos m)) (λ same. let both : pos n ≡ pos m = (Decides-int_eq (pos n) (pos m)).0 same in differ cc)

pub up_verdict : (x n : ℕ) (values : List Value) → slice_get values x ≡ Some (value_is.Int (pos n)) → n ≢ 0 → verdict values (Some (is_raised x)) ≡ Some true
up_verdict x n values is up = raised_verdict x n values is ∙ ap (λ b. Some (not b)) (unequal n 0 up)

pub same_verdict : (x n : ℕ) (values : List Value) → slice_get values x ≡ Some (value_is.Int (pos n)) → verdict values (Some (is_number x n)) ≡ Some true
same_verdict x n values is = number_verdict x n n values is ∙ ap Some ((Decides-int_eq (pos n) (pos n)).1 refl)

pub other_verdict : (x n m : ℕ) (values : List Value) → slice_get values x ≡ Some (value_is.Int (pos n)) → n ≢ m →
    verdict values (Some (is_number x m)) ≡ Some false
other_verdict x n m values is differ = number_verdict x n m values is ∙ ap Some (unequal n m differ)
