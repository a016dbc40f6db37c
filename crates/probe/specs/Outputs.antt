-- The outputs of a configuration.
use Rattle.std.specs.Prelude.{List, [], ◌∷◌, if◌then◌else◌}
use Rattle.std.specs.Ordering.{nat_cmp}
use Rattle.std.specs.Cmp.Lexicographic.{slice_cmp}
use Rattle.std.specs.List.Sorted.{IsPermutation, IsSortedByKey}
use Rattle.sc_values.specs.declared.value.Value.{Value}
use Rattle.sc_graph.specs.declared.program.Variable.{Variable}
use Rattle.sc_graph.specs.Size.{is_output}
use Rattle.probe.specs.declared.tick_end.Output.{Output}

abbrev pub Outputs : Type 0
Outputs = List Output

-- the outputs among variables, with their values, in order of declaration
abbrev pub outputs_among : List Variable → List Value → Outputs
outputs_among [] values = []
outputs_among (a ∷ variables) [] = []
outputs_among (a ∷ variables) (v ∷ values) =
    if is_output a.role
    then record { name = a.name; value = v } ∷ outputs_among variables values
    else outputs_among variables values

-- the row of the outputs among variables: each with its value, in byte order of their names
pub record IsRowOf (variables : List Variable) (values : List Value) (row : Outputs) : Type 0 where
  pub all : IsPermutation (outputs_among variables values) row
  pub ordered : IsSortedByKey (λ o. o.name) (slice_cmp nat_cmp) row
