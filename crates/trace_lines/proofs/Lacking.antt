-- The first member that gives nothing, and why its line gives none.
use Rattle.std.proofs.Common.{◌≡◌, ℕ, List, Bool, true, false, cond, Some, is_some, ap}
use Rattle.serde_json.specs.Data.{Data, Members, member}
use Rattle.sc_graph.specs.declared.program.Variable.{Variable}
use Rattle.trace_lines.specs.Line.{IsObjectOf, given}
use Rattle.trace_lines.specs.Cause.{IsCause, IsLacking, first_without}
use Rattle.trace_lines.specs.declared.causes.cause.Cause.{Cause}
use Rattle.trace_lines.specs.declared.causes.cause.Cause.TheVariants as cause

pub passed_over : (variables : List Variable) (name : List ℕ) (d : Data) (rest : Members) → is_some (given variables name d) ≡ true
    → first_without variables (member name d rest) ≡ first_without variables rest
passed_over variables name d rest gives = ap (λ b. cond b (first_without variables rest) (Some (name, d))) gives

pub is_first : (variables : List Variable) (name : List ℕ) (d : Data) (rest : Members) → is_some (given variables name d) ≡ false
    → first_without variables (member name d rest) ≡ Some (name, d)
is_first variables name d rest none = ap (λ b. cond b (first_without variables rest) (Some (name, d))) none

pub lacking_is : (variables : List Variable) (line : List ℕ) (members : Members) (c : Cause) → IsObjectOf line members → IsLacking variables members c
    → IsCause variables line c
lacking_is variables line members cause.TooLong object lacking = absurd lacking.meets
lacking_is variables line members cause.NoObject object lacking = absurd lacking.meets
lacking_is variables line members (cause.NoInput name) object lacking = record { members = members; object = object; lacking = lacking }
lacking_is variables line members (cause.Missing name) object lacking = absurd lacking.meets
lacking_is variables line members (cause.NoValue name kind is) object lacking = record { members = members; object = object; lacking = lacking }
