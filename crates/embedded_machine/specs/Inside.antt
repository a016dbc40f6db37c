-- What single cells hold, and how many inputs there are, for the functions that read and write them.
use Rattle.std.specs.Prelude.{ℕ, ◌+◌, ℤ, Option, List, [], ◌∷◌}
use Rattle.sc_values.specs.declared.value.Value.{Value}
use Rattle.sc_graph.specs.declared.program.Variable.{Variable}
use Rattle.sc_graph.specs.declared.program.Role.{Role}
use Rattle.sc_graph.specs.declared.program.Role.TheVariants as role
use Rattle.embedded_machine.specs.Cells.{value_in}

-- the values that cells hold, one for each variable
abbrev pub values_read : List Variable → List ℤ → List (Option Value)
values_read [] cells = []
values_read (x ∷ variables) [] = []
values_read (x ∷ variables) (n ∷ cells) = value_in x.kind n ∷ values_read variables cells

-- how many inputs a variable of this role is, one or none
abbrev pub count_input : Role → ℕ
count_input role.Input = 1
count_input other = 0

-- how many of these variables are inputs
abbrev pub count_inputs : List Variable → ℕ
count_inputs [] = 0
count_inputs (x ∷ variables) = count_input x.role + count_inputs variables
