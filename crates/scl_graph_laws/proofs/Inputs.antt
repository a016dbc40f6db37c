-- The inputs that a program accepts give each input variable a value of its kind.
use Rattle.std.proofs.Common.{◌≡◌, ℕ, Some, List, slice_get, sym, ap, ◌∙◌}
use Rattle.sc_values.specs.declared.value.Value.{Value}
use Rattle.sc_values.specs.Operator.{kind_of}
use Rattle.sc_graph.specs.declared.program.Variable.{Variable}
use Rattle.sc_graph.specs.Program.{Program}
use Rattle.sc_graph.specs.Tick.{Inputs, given, AreAccepted}
use Rattle.tick_laws.proofs.Starting.{GivenAt, given_at}
use Rattle.scl_graph_laws.specs.Keeps.{HaveOwnNames}

-- what a variable is given is of its kind
abbrev pub Fit : Inputs → List Variable → Type 0
Fit inputs variables = (i : ℕ) (x : Variable) (v : Value) → slice_get variables i ≡ Some x → given inputs x.name ≡ Some v → kind_of v ≡ x.kind

pub accepted_fit : (q : Program) (inputs : Inputs) → HaveOwnNames q.variables → AreAccepted q inputs → Fit inputs q.variables
accepted_fit q inputs own accepted i x v is h =
    let at : GivenAt inputs x.name v = given_at inputs x.name v h in
    let named : _ = accepted.named at.place x.name v at.is in
    sym named.5 ∙ ap (λ a. a.kind) (own named.0 i named.1 x named.2 is named.3)
