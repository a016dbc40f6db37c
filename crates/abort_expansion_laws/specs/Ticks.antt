-- Machines over lists of input ticks, and what of one is kept by another.
use Rattle.std.specs.Prelude.{List, [], ◌∷◌}
use Rattle.sc_values.specs.Runs.{Machine, Ends}
use Rattle.sc_graph.specs.Tick.{Inputs}

-- a machine with what stands before the first tick, and what a tick starts with
pub record Reactive : Type 1 where
  pub machine : Machine
  pub initial : machine.Configuration
  pub start : Inputs → machine.Configuration → machine.Configuration

-- each of these is an end of its tick, which starts from the one before
abbrev pub Reaction : (r : Reactive) → List Inputs → r.machine.Configuration → List r.machine.Configuration → Type 0
Reaction r [] c [] = Unit {0}
Reaction r (inputs ∷ ticks) c (d ∷ ends) = Ends r.machine (r.start inputs c) d × Reaction r ticks d ends
Reaction r [] c (d ∷ ends) = ⊥
Reaction r (inputs ∷ ticks) c [] = ⊥

abbrev pub EachAlike : {A B : Type 0} → (A → B → Type 0) → List A → List B → Type 0
EachAlike Alike [] [] = Unit {0}
EachAlike Alike (a ∷ as_) (b ∷ bs) = Alike a b × EachAlike Alike as_ bs
EachAlike Alike [] (b ∷ bs) = ⊥
EachAlike Alike (a ∷ as_) [] = ⊥

abbrev pub AllOf : (Inputs → Type 0) → List Inputs → Type 0
AllOf P [] = Unit {0}
AllOf P (inputs ∷ ticks) = P inputs × AllOf P ticks

-- a list of ends of the one machine, and one of the other that is seen alike
pub record HasAlike (n : Reactive) (A : Type 0) (Alike : A → n.machine.Configuration → Type 0) (ticks : List Inputs) (e : n.machine.Configuration)
    (ends : List A) : Type 0 where
  pub others : List n.machine.Configuration
  pub reaction : Reaction n ticks e others
  pub alike : EachAlike Alike ends others

-- over each list of ticks by such inputs, each list of ends of the one has one of the other that is seen alike
abbrev pub Keeps : (m n : Reactive) (Accepted : Inputs → Type 0) (Alike : m.machine.Configuration → n.machine.Configuration → Type 0) → Type 0
Keeps m n Accepted Alike =
    (ticks : List Inputs) (ends : List m.machine.Configuration) → AllOf Accepted ticks → Reaction m ticks m.initial ends →
    HasAlike n m.machine.Configuration Alike ticks n.initial ends
