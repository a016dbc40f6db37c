-- Why the line of a number gives no inputs.
use Rattle.std.specs.Prelude.{ℕ, Option, List}
use Rattle.sc_graph.specs.declared.program.Variable.{Variable}
use Rattle.trace_lines.specs.declared.causes.cause.Cause.{Cause}
use Rattle.trace_lines.specs.Cause.{IsCause}
use Rattle.trace_lines.specs.Recent.{IsLine}

-- the line of this number gives no inputs among these variables, for this cause
pub record IsMetOn (variables : List Variable) (input : Option (List ℕ)) (number : ℕ) (c : Cause) : Type 0 where
  pub line : List ℕ
  pub is : IsLine input number line
  pub cause : IsCause variables line c
