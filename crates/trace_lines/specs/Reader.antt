-- What contracts see of a reader of lines.
use Rattle.std.specs.Prelude.{ℕ, List}
use Rattle.sc_values.specs.declared.value.Value.{Value}
use Rattle.sc_graph.specs.declared.program.Variable.{Variable}

-- the variables of the program, and what the line that was read last gives to the inputs
pub record Reader : Type 0 where
  pub variables : List Variable
  pub given : List (List ℕ × Value)
