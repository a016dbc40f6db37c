-- A well-kinded expression over variables of these kinds has a value, and it is of the expression's kind.
use Rattle.std.proofs.Common.{◌≡◌, ℕ, ◌<◌, Option, Some, None, List, option_and_then, length, slice_get, get_or, refl, sym, ap, ◌∙◌, subst, arith}
use Rattle.std.proofs.lemmas.Option.{slice_get_within, slice_get-get_or}
use Rattle.sc_values.specs.declared.value.Value.{Value}
use Rattle.sc_values.specs.declared.value.Value.TheVariants as value_of
use Rattle.sc_values.specs.declared.value.Kind.{Kind}
use Rattle.sc_values.specs.declared.operator.UnaryOperator.{UnaryOperator}
use Rattle.sc_values.specs.declared.operator.UnaryOperator.TheVariants as unary
use Rattle.sc_values.specs.declared.operator.BinaryOperator.{BinaryOperator}
use Rattle.sc_values.specs.declared.operator.BinaryOperator.TheVariants as binary
use Rattle.sc_values.specs.declared.operation.Operation.{Operation}
use Rattle.sc_values.specs.declared.expression.Expr.{Expr}
use Rattle.sc_values.specs.Operator.{kind_of, initial_value, unary_value, binary_value, unary_kind, binary_kind}
use Rattle.sc_values.specs.Expr.{value, kind}
use Rattle.sc_values.specs.Code.{code_value, IsWellFormed}
use Rattle.sc_values.proofs.Induction.{induct, value-literal, value-load, value-unary, value-binary, kind-literal, kind-load, kind-unary, kind-binary}
use Rattle.sc_values.proofs.Spelling.{spells-tree_of}

-- the result is a value of this kind
pub record Gives (result : Option Value) (k : Kind) : Type 0 where
  pub value : Value
  pub is : result ≡ Some value
  pub kind : kind_of value ≡ k

pub unary_gives : (f : UnaryOperator) (a : Value) (k : Kind) → unary_kind f (kind_of a) ≡ Some k → Gives (unary_value f a) k
unary_gives unary.Negate (value_of.Int n) k is = record { value = _; is = refl; kind = cc }
unary_gives unary.Not (value_of.Bool b) k is = record { value = _; is = refl; kind = cc }
unary_gives (unary.Divide d) (value_of.Int n) k is = record { value = _; is = refl; kind = cc }
unary_gives (unary.Remainder d) (value_of.Int n) k is = record { value = _; is = refl; kind = cc }
unary_gives unary.Negate (value_of.Bool b) k is = absurd cc
unary_gives (unary.Divide d) (value_of.Bool b) k is = absurd cc
unary_gives (unary.Remainder d) (value_of.Bool b) k is = absurd cc
unary_gives unary.Not (value_of.Int n) k is = absurd cc

pub binary_gives : (f : BinaryOperator) (a b : Value) (k : Kind) → binary_kind f (kind_of a) (kind_of b) ≡ Some k → Gives (binary_value f a b) k
binary_gives binary.Add (value_of.Int m) (value_of.Int n) k is = record { value = _; is = refl; kind = cc }
binary_gives binary.Subtract (value_of.Int m) (value_of.Int n) k is = record { value = _; is = refl; kind = cc }
binary_gives binary.Multiply (value_of.Int m) (value_of.Int n) k is = record { value = _; is = refl; kind = cc }
binary_gives binary.Min (value_of.Int m) (value_of.Int n) k is = record { value = _; is = refl; kind = cc }
binary_gives binary.Max (value_of.Int m) (value_of.Int n) k is = record { value = _; is = refl; kind = cc }
binary_gives binary.And (value_of.Int m) (value_of.Int n) k is = absurd cc
binary_gives binary.Or (value_of.Int m) (value_of.Int n) k is = absurd cc
binary_gives binary.Equal (value_of.Int m) (value_of.Int n) k is = record { value = _; is = refl; kind = cc }
binary_gives binary.NotEqual (value_of.Int m) (value_of.Int n) k is = record { value = _; is = refl; kind = cc }
binary_gives binary.Less (value_of.Int m) (value_of.Int n) k is = record { value = _; is = refl; kind = cc }
binary_gives binary.LessOrEqual (value_of.Int m) (value_of.Int n) k is = record { value = _; is = refl; kind = cc }
binary_gives binary.Greater (value_of.Int m) (value_of.Int n) k is = record { value = _; is = refl; kind = cc }
binary_gives binary.GreaterOrEqual (value_of.Int m) (value_of.Int n) k is = record { value = _; is = refl; kind = cc }
binary_gives binary.And (value_of.Bool a) (value_of.Bool b) k is = record { value = _; is = refl; kind = cc }
binary_gives binary.Or (value_of.Bool a) (value_of.Bool b) k is = record { value = _; is = refl; kind = cc }
binary_gives binary.Equal (value_of.Bool a) (value_of.Bool b) k is = record { value = _; is = refl; kind = cc }
binary_gives binary.NotEqual (value_of.Bool a) (value_of.Bool b) k is = record { value = _; is = refl; kind = cc }
binary_gives binary.Add (value_of.Bool a) (value_of.Bool b) k is = absurd cc
binary_gives binary.Subtract (value_of.Bool a) (value_of.Bool b) k is = absurd cc
binary_gives binary.Multiply (value_of.Bool a) (value_of.Bool b) k is = absurd cc
binary_gives binary.Min (value_of.Bool a) (value_of.Bool b) k is = absurd cc
binary_gives binary.Max (value_of.Bool a) (value_of.Bool b) k is = absurd cc
binary_gives binary.Less (value_of.Bool a) (value_of.Bool b) k is = absurd cc
binary_gives binary.LessOrEqual (value_of.Bool a) (value_of.Bool b) k is = absurd cc
binary_gives binary.Greater (value_of.Bool a) (value_of.Bool b) k is = absurd cc
binary_gives binary.GreaterOrEqual (value_of.Bool a) (value_of.Bool b) k is = absurd cc
binary_gives f (value_of.Int m) (value_of.Bool b) k is = absurd cc
binary_gives f (value_of.Bool a) (value_of.Int n) k is = absurd cc

-- each variable's value is of its kind
pub record AreOf (kinds : List Kind) (variables : List Value) : Type 0 where
  pub each : (x : ℕ) (k : Kind) → slice_get kinds x ≡ Some k → Gives (slice_get variables x) k

gives_unary : (f : UnaryOperator) (k : Kind) (a : Option Kind) (r : Option Value) → ((j : Kind) → a ≡ Some j → Gives r j) → option_and_then (unary_kind f) a
    ≡ Some k → Gives (option_and_then (unary_value f) r) k
gives_unary f k None r operand is = absurd cc
gives_unary f k (Some j) r operand is =
    let g = operand j refl in
    let fits : unary_kind f (kind_of g.value) ≡ Some k = ap (unary_kind f) g.kind ∙ is in
    let P : Option Value → Type 0 = λ o. Gives (option_and_then (unary_value f) o) k in
    subst P (sym g.is) (unary_gives f g.value k fits)

gives_binary : (f : BinaryOperator) (k : Kind) (a b : Option Kind) (r s : Option Value) → ((j : Kind) → a ≡ Some j → Gives r j)
    → ((j : Kind) → b ≡ Some j → Gives s j) → option_and_then (λ m. option_and_then (binary_kind f m) b) a ≡ Some k
    → Gives (option_and_then (λ m. option_and_then (binary_value f m) s) r) k
gives_binary f k None b r s left right is = absurd cc
gives_binary f k (Some i) None r s left right is = absurd cc
gives_binary f k (Some i) (Some j) r s left right is =
    let g = left i refl in
    let h = right j refl in
    let fits : binary_kind f (kind_of g.value) (kind_of h.value) ≡ Some k = ap (λ n. binary_kind f n (kind_of h.value)) g.kind ∙ ap (binary_kind f i) h.kind
    ∙ is in
    let P : Option Value → Type 0 = λ o. Gives (option_and_then (λ m. option_and_then (binary_value f m) s) o) k in
    let Q : Option Value → Type 0 = λ o. Gives (option_and_then (binary_value f g.value) o) k in
    subst P (sym g.is) (subst Q (sym h.is) (binary_gives f g.value h.value k fits))

pub gives_at : (e : Option Value) (d : Option Value) (k : Kind) → d ≡ e → Gives e k → Gives d k
gives_at e d k same g = record { value = g.value; is = same ∙ g.is; kind = g.kind }

abbrev HasValue : Expr → Type 0
HasValue e = (kinds : List Kind) (variables : List Value) (k : Kind) → AreOf kinds variables → kind e kinds ≡ Some k → Gives (value e variables) k

pub value_gives : (e : Expr) → HasValue e
value_gives = induct HasValue (record {
  of_literal = λ v kinds variables k are is. record {
    value = v;
    is = value-literal v variables;
    kind = let same : Some (kind_of v)
        ≡ Some k = sym (kind-literal v kinds) ∙ is in cc;
  };
  of_load = λ x kinds variables k are is. gives_at _ _ k (value-load x variables) (are.each x k (sym (kind-load x kinds) ∙ is));
  of_unary = λ f a left kinds variables k are is.
      gives_at _ _ k (value-unary f a variables) (gives_unary f k (kind a kinds) (value a variables) (λ j e. left kinds variables j are e)
      (sym (kind-unary f a kinds) ∙ is));
  of_binary = λ f a b left right kinds variables k are is.
      gives_at _ _ k (value-binary f a b variables)
      (gives_binary f k (kind a kinds) (kind b kinds) (value a variables) (value b variables) (λ j e. left kinds variables j are e)
      (λ j e. right kinds variables j are e) (sym (kind-binary f a b kinds) ∙ is));
})

-- equal lengths, and each value of its kind
pub are_of : (kinds : List Kind) (variables : List Value) → length variables ≡ length kinds
    → ((x : ℕ) (v : Value) → slice_get variables x ≡ Some v → slice_get kinds x ≡ Some (kind_of v)) → AreOf kinds variables
are_of kinds variables long each = record { each = λ x k is. at x k (slice_get variables x) refl is }
  where
    at : (x : ℕ) (k : Kind) (o : Option Value) → slice_get variables x ≡ o → slice_get kinds x ≡ Some k → Gives (slice_get variables x) k
    at x k (Some v) was is = record { value = v; is = was; kind = let same : Some (kind_of v) ≡ Some k = sym (each x v was) ∙ is in cc }
    at x k None was is =
        let within : x < length kinds = slice_get_within kinds x k is in
        let here = slice_get-get_or variables x (initial_value k) (omega arith) in
        absurd (let no : None ≡ Some (get_or variables x (initial_value k)) = sym was ∙ here in cc)

-- a well-formed code over variables of these kinds has a value of the code's kind
pub well_formed_value : (kinds : List Kind) (code : List Operation) (variables : List Value) (formed : IsWellFormed kinds code) → length variables
    ≡ length kinds → ((x : ℕ) (v : Value) → slice_get variables x ≡ Some v → slice_get kinds x ≡ Some (kind_of v))
    → Gives (code_value code variables) formed.gives
well_formed_value kinds code variables formed long each =
    let g = value_gives formed.spelt kinds variables formed.gives (are_of kinds variables long each) formed.kinded in
    gives_at _ _ formed.gives (ap (option_and_then (λ e. value e variables)) (spells-tree_of code formed.spelt formed.spells)) g
