-- Where no values are left, none are started.
use Rattle.std.proofs.Common.{◌≡◌, List, [], ◌∷◌, refl}
use Rattle.sc_graph.specs.declared.program.Variable.{Variable}
use Rattle.sc_graph.specs.Tick.{Inputs, values_at_start}

pub none_started : (inputs : Inputs) (variables : List Variable) → values_at_start inputs variables [] ≡ []
none_started inputs [] = refl
none_started inputs (x ∷ variables) = refl
