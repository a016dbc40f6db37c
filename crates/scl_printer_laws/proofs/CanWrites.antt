-- A text can write each well-kinded expression whose literals are not negative, where its numbers fit in 32 bits and the variables
-- have names of SCL, each another one.
use Rattle.std.proofs.Common.{◌≡◌, ℕ, suc, ◌≤◌, Bool, true, false, ℤ, pos, negsuc, unsigned_abs, Option, Some, None, List, map, slice_get}
use Rattle.std.proofs.Common.{refl, sym, ◌∙◌, ap, ◌⊎◌, inl, inr, arith}
use Rattle.std.specs.Prelude.{not, option_map, option_and_then}
use Rattle.std.specs.Ordering.{int_eq}
use Rattle.std.proofs.lemmas.Bool.{and_parts}
use Rattle.std.proofs.lemmas.Bool.Decides.{Decides-int_eq}
use Rattle.std.proofs.lemmas.Option.{slice_get-map}
use Rattle.sc_values.specs.declared.value.Value.{Value}
use Rattle.sc_values.specs.declared.value.Value.TheVariants as value
use Rattle.sc_values.specs.declared.value.Kind.{Kind}
use Rattle.sc_values.specs.declared.operator.UnaryOperator.{UnaryOperator}
use Rattle.sc_values.specs.declared.operator.UnaryOperator.TheVariants as unary
use Rattle.sc_values.specs.declared.operator.BinaryOperator.{BinaryOperator}
use Rattle.sc_values.specs.declared.expression.Expr.{Expr}
use Rattle.sc_values.specs.declared.expression.Expr.TheOpen as tree
use Rattle.sc_values.specs.declared.expression.Expr.TheViews.{roll-Expr}
use Rattle.sc_values.specs.declared.expression.Expr.TheFolds.{fold-roll-Expr}
use Rattle.sc_values.specs.Operator.{unary_kind, binary_kind}
use Rattle.sc_values.specs.Expr.{kind}
use Rattle.sc_values.proofs.Induction.{kind-load, kind-unary, kind-binary}
use Rattle.sc_graph.specs.declared.program.Variable.{Variable}
use Rattle.sc_text.specs.Tokens.{number_limit}
use Rattle.sc_text.specs.Parts.{is_writable_literal, is_writable_unary, writable_step, is_writable, IsExpression}
use Rattle.sc_text.proofs.Distinct.{AreFirst}
use Rattle.scl_printer_laws.specs.Reading.{names_of, CanWriteLiteral, CanWriteOperator, CanWriteVariable, CanWrite, a_literal, a_load, a_unary, a_binary}
use Rattle.scl_printer_laws.specs.Programs.{IsNumber, HoldsNumber, DividesByNumber, HasNumbers, of_literal, of_load, of_unary, of_binary}
use Rattle.scl_printer_laws.proofs.Lines.{CanName}

can_literal : (v : Value) → HoldsNumber v → is_writable_literal v ≡ true → CanWriteLiteral v
can_literal (value.Bool b) h w = tt
can_literal (value.Int (pos n)) h w = h
can_literal (value.Int (negsuc n)) h w = absurd (cc)

less_or_last : (n limit : ℕ) → n ≤ limit → (suc n ≤ limit) ⊎ (n ≡ limit)
less_or_last n limit le = grind arith

no_least : (z : ℤ) → IsNumber z → not (int_eq z (negsuc 2147483647)) ≡ true → unsigned_abs z ≤ number_limit
no_least (pos n) h w = h
no_least (negsuc n) h w = by_cases (less_or_last n number_limit h)
  where
    by_cases : (suc n ≤ number_limit) ⊎ (n ≡ number_limit) → suc n ≤ number_limit
    by_cases (inl le) = le
    by_cases (inr e) =
        let least : int_eq (negsuc n) (negsuc 2147483647) ≡ true = (Decides-int_eq (negsuc n) (negsuc 2147483647)).1 (ap negsuc e) in
        let no : not (int_eq (negsuc n) (negsuc 2147483647)) ≡ false = ap not least in
        absurd (cc)

can_operator : (f : UnaryOperator) → DividesByNumber f → is_writable_unary f ≡ true → CanWriteOperator f
can_operator unary.Negate h w = tt
can_operator unary.Not h w = tt
can_operator (unary.Divide d) h w = no_least d.number h w
can_operator (unary.Remainder d) h w = no_least d.number h w

module _ (variables : List Variable) (first : AreFirst (names_of variables))
    (called : (i : ℕ) (v : Variable) → slice_get variables i ≡ Some v → CanName v.name) where
  abbrev kinds : List Kind
  kinds = map (λ v. v.kind) variables

  can_variable : (x : ℕ) (k : Kind) → slice_get kinds x ≡ Some k → CanWriteVariable variables x
  can_variable x k is = by_cases (slice_get variables x) refl (sym (slice_get-map (λ (v : Variable). v.kind) variables x) ∙ is)
    where
      by_cases : (o : Option Variable) → slice_get variables x ≡ o → option_map (λ (v : Variable). v.kind) (slice_get variables x) ≡ Some k
          → CanWriteVariable variables x
      by_cases None was e =
          let none : option_map (λ (v : Variable). v.kind) (slice_get variables x) ≡ None = ap (option_map (λ (v : Variable). v.kind)) was in
          absurd (cc)
      by_cases (Some v) was e =
          let name_at : slice_get (names_of variables) x ≡ Some v.name =
          slice_get-map (λ (v : Variable). v.name) variables x ∙ ap (option_map (λ (v : Variable). v.name)) was in
          record { variable = v; stands = was; named = (called x v was).0; free = (called x v was).1; first = first x v.name name_at }

  abbrev Can : Expr → Type 0
  Can e = (k : Kind) → kind e kinds ≡ Some k → is_writable e ≡ true → CanWrite variables e

  can_unary : (f : UnaryOperator) (a : Expr) → DividesByNumber f → Can a → Can (roll-Expr (tree.Unary f a))
  can_unary f a h can k is w =
      let parts = and_parts (is_writable_unary f) (is_writable a) (sym (fold-roll-Expr Bool writable_step (tree.Unary f a)) ∙ w) in
      by_kind (kind a kinds) refl (sym (kind-unary f a kinds) ∙ is) parts.0 parts.1
    where
      by_kind : (o : Option Kind) → kind a kinds ≡ o → option_and_then (unary_kind f) o ≡ Some k → is_writable_unary f ≡ true → is_writable a ≡ true
          → CanWrite variables (roll-Expr (tree.Unary f a))
      by_kind None was e u v = absurd (cc)
      by_kind (Some j) was e u v = a_unary f a (can_operator f h u) (can j was v)

  can_binary : (f : BinaryOperator) (a b : Expr) → Can a → Can b → Can (roll-Expr (tree.Binary f a b))
  can_binary f a b left right k is w =
      let parts = and_parts (is_writable a) (is_writable b) (sym (fold-roll-Expr Bool writable_step (tree.Binary f a b)) ∙ w) in
      by_kinds (kind a kinds) (kind b kinds) refl refl (sym (kind-binary f a b kinds) ∙ is) parts.0 parts.1
    where
      by_kinds : (o r : Option Kind) → kind a kinds ≡ o → kind b kinds ≡ r → option_and_then (λ m. option_and_then (binary_kind f m) r) o ≡ Some k
          → is_writable a ≡ true → is_writable b ≡ true → CanWrite variables (roll-Expr (tree.Binary f a b))
      by_kinds None r was also e u v = absurd (cc)
      by_kinds (Some i) None was also e u v = absurd (cc)
      by_kinds (Some i) (Some j) was also e u v = a_binary f a b (left i was u) (right j also v)

  can : (e : Expr) → HasNumbers e → Can e
  can e (of_literal v h) k is w = a_literal v (can_literal v h (sym (fold-roll-Expr Bool writable_step (tree.Literal v)) ∙ w))
  can e (of_load x) k is w = a_load x (can_variable x k (sym (kind-load x kinds) ∙ is))
  can e (of_unary f a h more) k is w = can_unary f a h (can a more) k is w
  can e (of_binary f a b left right) k is w = can_binary f a b (can a left) (can b right) k is w

  pub can_write : (k : Kind) (e : Expr) → IsExpression kinds k e → HasNumbers e → CanWrite variables e
  can_write k e is h = can e h k is.kinded is.writable
