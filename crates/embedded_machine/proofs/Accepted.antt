-- The inputs that cells give are accepted, whatever the cells hold.
use Rattle.std.proofs.Common.{◌≡◌, ◌≢◌, ℕ, zero, suc, ◌<◌, ℤ, pos, Bool, true, false, if◌then◌else◌, List, [], ◌∷◌, Option, Some, None}
use Rattle.std.proofs.Common.{slice_get, refl, sym, ap, ◌∙◌, arith}
use Rattle.std.proofs.lemmas.Option.{none-some, same_Some}
use Rattle.sc_values.specs.declared.value.Value.{Value}
use Rattle.std.specs.Ordering.{int_eq}
use Rattle.sc_values.specs.declared.value.Value.TheVariants as value
use Rattle.sc_values.specs.declared.value.Kind.{Kind}
use Rattle.sc_values.specs.declared.value.Kind.TheVariants as kind
use Rattle.sc_values.specs.Operator.{kind_of}
use Rattle.sc_graph.specs.declared.program.Variable.{Variable}
use Rattle.sc_graph.specs.declared.program.Role.{Role}
use Rattle.sc_graph.specs.declared.program.Role.TheVariants as role
use Rattle.sc_graph.specs.declared.place.Place.TheVariants as place
use Rattle.sc_graph.specs.declared.tables.Tables.{Tables}
use Rattle.sc_graph.specs.Program.{Program}
use Rattle.sc_graph.specs.Tick.{AreAccepted}
use Rattle.sc_graph.specs.Valid.{IsValid}
use Rattle.embedded_machine.specs.Cells.{inputs_in, value_in, with_input}

abbrev Input : Type 0
Input = List ℕ × Value

-- an input of these variables, with its place among them
record Named (variables : List Variable) (a : Input) : Type 0 where
  number : ℕ
  variable : Variable
  is : slice_get variables number ≡ Some variable
  name : variable.name ≡ a.0
  role : variable.role ≡ role.Input
  kind : variable.kind ≡ kind_of a.1

-- no two of these variables have one name
abbrev NewNames : List Variable → Type 0
NewNames variables = (x y : ℕ) (a b : Variable) → x < y → slice_get variables x ≡ Some a → slice_get variables y ≡ Some b → a.name ≢ b.name

bool_kind : (is_false is_true : Bool) (v : Value)
    → (if is_false then Some (value.Bool false) else if is_true then Some (value.Bool true) else None) ≡ Some v → kind.Bool ≡ kind_of v
bool_kind true other v is = ap kind_of (same_Some (value.Bool false) v is)
bool_kind false true v is = ap kind_of (same_Some (value.Bool true) v is)
bool_kind false false v is = absurd (none-some v is)

of_kind : (k : Kind) (n : ℤ) (v : Value) → value_in k n ≡ Some v → k ≡ kind_of v
of_kind kind.Int n v is = ap kind_of (same_Some (value.Int n) v is)
of_kind kind.Bool n v is = bool_kind (int_eq n (pos 0)) (int_eq n (pos 1)) v is

behind : (x : Variable) (variables : List Variable) (a : Input) → Named variables a → Named (x ∷ variables) a
behind x variables a d = record { number = suc d.number; variable = d.variable; is = d.is; name = d.name; role = d.role; kind = d.kind }

named : (variables : List Variable) (cells : List ℤ) (i : ℕ) (a : Input) → slice_get (inputs_in variables cells) i ≡ Some a → Named variables a
named [] cells i a is = absurd (none-some a is)
named (x ∷ variables) [] i a is = absurd (none-some a is)
named (x ∷ variables) (n ∷ cells) i a is = at x.role refl (value_in x.kind n) (of_kind x.kind n) i is (λ k later. behind x variables a
    (named variables cells k a later))
  where
    at : (r : Role) → x.role ≡ r → (given : Option Value) → ((v : Value) → given ≡ Some v → x.kind ≡ kind_of v) → (i : ℕ)
        → slice_get (with_input x r given (inputs_in variables cells)) i ≡ Some a
        → ((k : ℕ) → slice_get (inputs_in variables cells) k ≡ Some a → Named (x ∷ variables) a) → Named (x ∷ variables) a
    at role.Input same (Some v) fits zero is later = record {
      number = 0;
      variable = x;
      is = refl;
      name = ap (λ (b : Input). b.0) (same_Some (x.name, v) a is);
      role = same;
      kind = fits v refl ∙ ap (λ (b : Input). kind_of b.1) (same_Some (x.name, v) a is);
    }
    at role.Input same (Some v) fits (suc i) is later = later i is
    at role.Input same None fits i is later = later i is
    at role.Output same given fits i is later = later i is
    at role.Local same given fits i is later = later i is

once : (variables : List Variable) → NewNames variables → (cells : List ℤ) (i j : ℕ) (a b : Input) → i < j
    → slice_get (inputs_in variables cells) i ≡ Some a → slice_get (inputs_in variables cells) j ≡ Some b
    → a.0 ≢ b.0
once [] new cells i j a b less first second = absurd (none-some a first)
once (x ∷ variables) new [] i j a b less first second = absurd (none-some a first)
once (x ∷ variables) new (n ∷ cells) i j a b less first second = at x.role (value_in x.kind n) i j less first second
    (λ k l below. once variables (λ y z c d smaller. new (suc y) (suc z) c d (omega (arith, smaller))) cells k l a b below)
  where
    at : (r : Role) (given : Option Value) (i j : ℕ) → i < j → slice_get (with_input x r given (inputs_in variables cells)) i ≡ Some a
        → slice_get (with_input x r given (inputs_in variables cells)) j ≡ Some b
        → ((k l : ℕ) → k < l → slice_get (inputs_in variables cells) k ≡ Some a → slice_get (inputs_in variables cells) l ≡ Some b → a.0 ≢ b.0) → a.0 ≢ b.0
    at role.Input (Some v) zero zero less first second later = absurd (omega (arith, less))
    at role.Input (Some v) (suc i) zero less first second later = absurd (omega (arith, less))
    at role.Input (Some v) zero (suc j) less first second later = λ same. let d = named variables cells j b second in
        new 0 (suc d.number) x d.variable (omega arith) refl d.is (ap (λ (c : Input). c.0) (same_Some (x.name, v) a first) ∙ same ∙ sym d.name)
    at role.Input (Some v) (suc i) (suc j) less first second later = later i j (omega (arith, less)) first second
    at role.Input None i j less first second later = later i j less first second
    at role.Output given i j less first second later = later i j less first second
    at role.Local given i j less first second later = later i j less first second

pub cells_accepted : (p : Program) (q : Tables) → IsValid p q → (cells : List ℤ) → AreAccepted p (inputs_in p.variables cells)
cells_accepted p q valid cells = record {
  named = λ i name v is. let d = named p.variables cells i (name, v) is in (d.number, d.variable, d.is, d.name, d.role, d.kind);
  once = once p.variables (λ x y a b less i j. ((valid.size (place.Variable y)).0 b j).new_name x a less i) cells;
}
