-- Where every input has to be named: why a line does not name it.
use Rattle.std.specs.Prelude.{ℕ, ◌≡◌, ◌⊎◌, ◌&&◌, Bool, true, false, not, if◌then◌else◌, Option, Some, None, List, [], ◌∷◌, string_bytes}
use Rattle.std.specs.Option.{is_some}
use Rattle.serde_json.specs.Data.{Data, object, Members}
use Rattle.serde_json.specs.Find.{get}
use Rattle.sc_graph.specs.declared.program.Variable.{Variable}
use Rattle.trace_lines.specs.Line.{IsObjectOf, is_input}
use Rattle.trace_lines.specs.declared.causes.cause.Cause.{Cause}
use Rattle.trace_lines.specs.declared.causes.cause.Cause.TheVariants as cause
use Rattle.trace_lines.specs.Met.{IsMetOn}
use Rattle.trace_lines.specs.Recent.{IsLine}

-- the first input among variables that no member names
abbrev pub first_missing : List Variable → Data → Option (List ℕ)
first_missing [] d = None
first_missing (a ∷ variables) d =
    if is_input a.role && not (is_some (get a.name d)) then Some a.name else first_missing variables d

-- this names it
abbrev pub Names : List Variable → Data → Cause → Type 0
Names variables d (cause.Missing shown) = first_missing variables d ≡ Some (string_bytes shown)
Names variables d other = ⊥

-- the line is a JSON object, and this names the first input that it does not
pub record IsMissingIn (variables : List Variable) (line : List ℕ) (c : Cause) : Type 0 where
  pub members : Members
  pub is : IsObjectOf line members
  pub names : Names variables (object members) c

-- the line of this number is such a one
pub record IsMissingOn (variables : List Variable) (input : Option (List ℕ)) (number : ℕ) (c : Cause) : Type 0 where
  pub line : List ℕ
  pub is : IsLine input number line
  pub missing : IsMissingIn variables line c

-- why the line of this number gives no inputs, or, where every input has to be named, which one it does not name
abbrev pub IsMetUnder : Bool → List Variable → Option (List ℕ) → ℕ → Cause → Type 0
IsMetUnder false variables input number c = IsMetOn variables input number c
IsMetUnder true variables input number c = IsMetOn variables input number c ⊎ IsMissingOn variables input number c
