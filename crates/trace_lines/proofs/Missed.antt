-- Inputs that a line does not name.
use Rattle.std.proofs.Common.{◌≡◌, ℕ, Bool, true, false, List, Option, inl, refl}
use Rattle.sc_graph.specs.declared.program.Variable.{Variable}
use Rattle.trace_lines.specs.declared.causes.cause.Cause.{Cause}
use Rattle.trace_lines.specs.Met.{IsMetOn}
use Rattle.trace_lines.specs.Missing.{IsMetUnder}

-- what is met on a line is so under any rule
pub met_under : (strict : Bool) (variables : List Variable) (input : Option (List ℕ)) (number : ℕ) (c : Cause) → IsMetOn variables input number c
    → IsMetUnder strict variables input number c
met_under true variables input number c met = inl met
met_under false variables input number c met = met
