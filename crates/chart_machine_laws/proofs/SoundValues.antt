-- Each variable's value is of its kind.
use Rattle.std.proofs.Common.{◌≡◌, ℕ, zero, suc, Option, Some, None, List, [], ◌∷◌, map, slice_get, slice_set, unwrap_or, refl, sym, ap, ◌∙◌}
use Rattle.sc_values.specs.declared.value.Kind.{Kind}
use Rattle.sc_values.specs.declared.value.Value.{Value}
use Rattle.sc_values.specs.Operator.{kind_of, initial_value}
use Rattle.sc_values.proofs.WellKinded.{AreOf, Gives}
use Rattle.sc_graph.specs.declared.program.Variable.{Variable}
use Rattle.sc_graph.specs.declared.program.Role.{Role}
use Rattle.sc_graph.specs.declared.program.Role.TheVariants as role
use Rattle.sc_graph.specs.Tick.{Inputs, given, value_at_start, values_at_start}
use Rattle.sc_graph.proofs.AtRest.{kind_of-initial_value}
use Rattle.core_charts.specs.Rules.{kinds_of}
use Rattle.chart_machine_laws.specs.Progress.{KeepKinds}

abbrev pub Kinded : List Variable → List Value → Type 0
Kinded [] [] = Unit {0}
Kinded (x ∷ variables) (v ∷ values) = (kind_of v ≡ x.kind) × Kinded variables values
Kinded [] (v ∷ values) = ⊥
Kinded (x ∷ variables) [] = ⊥

given_at : (variables : List Variable) (values : List Value) → Kinded variables values → (x : ℕ) (k : Kind) → slice_get (kinds_of variables) x ≡ Some k →
    Gives (slice_get values x) k
given_at [] [] h x k is = absurd cc
given_at (y ∷ variables) (v ∷ values) h zero k is = let same : y.kind ≡ k = cc in record { value = v; is = refl; kind = h.0 ∙ same }
given_at (y ∷ variables) (v ∷ values) h (suc x) k is = given_at variables values h.1 x k is
given_at [] (v ∷ values) h x k is = absurd h
given_at (y ∷ variables) [] h x k is = absurd h

pub are_of_kinds : (variables : List Variable) (values : List Value) → Kinded variables values → AreOf (kinds_of variables) values
are_of_kinds variables values h = record { each = given_at variables values h }

pub kept_kinds : (variables : List Variable) (values : List Value) → Kinded variables values → (i : ℕ) (x : Variable) → slice_get variables i ≡ Some x →
    (v : Value) → kind_of v ≡ x.kind → Kinded variables (slice_set values i v)
kept_kinds [] [] h i x is v of = absurd cc
kept_kinds (y ∷ variables) (w ∷ values) h zero x is v of = let same : y ≡ x = cc in (of ∙ ap (λ (z : Variable). z.kind) (sym same), h.1)
kept_kinds (y ∷ variables) (w ∷ values) h (suc i) x is v of = (h.0, kept_kinds variables values h.1 i x is v of)
kept_kinds [] (v ∷ values) h i x is w of = absurd h
kept_kinds (y ∷ variables) [] h i x is v of = absurd h

pub initial_kinds : (variables : List Variable) → Kinded variables (map (λ x. initial_value x.kind) variables)
initial_kinds [] = tt
initial_kinds (x ∷ variables) = (kind_of-initial_value x.kind, initial_kinds variables)

started_kind : (inputs : Inputs) (x : Variable) (present : Value) → kind_of present ≡ x.kind →
    (x.role ≡ role.Input → (v : Value) → given inputs x.name ≡ Some v → kind_of v ≡ x.kind) → (r : Role) → x.role ≡ r →
    kind_of (value_at_start inputs x r present) ≡ x.kind
started_kind inputs x present of inputs_of role.Input is = by (given inputs x.name) refl
  where
    by : (o : Option Value) → given inputs x.name ≡ o → kind_of (unwrap_or o (initial_value x.kind)) ≡ x.kind
    by None none = kind_of-initial_value x.kind
    by (Some v) some = inputs_of is v some
started_kind inputs x present of inputs_of role.Output is = of
started_kind inputs x present of inputs_of role.Local is = of

pub started_kinds : (inputs : Inputs) (variables : List Variable) (values : List Value) → KeepKinds variables inputs → Kinded variables values →
    Kinded variables (values_at_start inputs variables values)
started_kinds inputs [] [] keep h = tt
started_kinds inputs (x ∷ variables) (v ∷ values) keep h = (
  started_kind inputs x v h.0 (λ is w some. keep 0 x w refl is some) x.role refl,
  started_kinds inputs variables values (λ i y w at is some. keep (suc i) y w at is some) h.1,
)
started_kinds inputs [] (v ∷ values) keep h = absurd h
started_kinds inputs (x ∷ variables) [] keep h = absurd h
