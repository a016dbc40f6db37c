-- Why a line gives no inputs: it is too long, or no JSON object; or the first of its members that gives nothing names no
-- input, or has a value that the input's kind does not take.
use Rattle.std.specs.Prelude.{ℕ, ◌≡◌, ◌<◌, ◌&&◌, Bool, false, is_some, if◌then◌else◌, Option, Some, None, option_map, List, length, string_bytes}
use Rattle.serde_json.specs.Data.{Num, unsigned, negative, float, Data, null, boolean, number, string, array, object, Members, no_members, member}
use Rattle.sc_values.specs.declared.value.Kind.{Kind}
use Rattle.sc_graph.specs.declared.program.Variable.{Variable}
use Rattle.trace_lines.specs.Line.{IsObjectOf, given, input_of}
use Rattle.trace_lines.specs.Lines.{line_limit}
use Rattle.trace_lines.specs.declared.causes.cause.Cause.{Cause}
use Rattle.trace_lines.specs.declared.causes.cause.Cause.TheVariants as cause
use Rattle.trace_lines.specs.declared.causes.cause.Met.{Met}
use Rattle.trace_lines.specs.declared.causes.cause.Met.TheVariants as met

abbrev pub number_met : Num → Met
number_met (unsigned n) = met.Whole
number_met (negative z) = met.Whole
number_met (float x) = met.Fraction

-- what JSON data are
abbrev pub met_of : Data → Met
met_of null = met.Null
met_of (boolean b) = met.Truth b
met_of (number n) = number_met n
met_of (string s) = met.Text
met_of (array ds) = met.List
met_of (object ms) = met.Object

-- the first member that gives nothing
abbrev pub first_without : List Variable → Members → Option (List ℕ × Data)
first_without variables no_members = None
first_without variables (member name d rest) =
    if is_some (given variables name d) then first_without variables rest else Some (name, d)

-- the kind of the input of this name
abbrev pub kind_of : List Variable → List ℕ → Option Kind
kind_of variables name = option_map (λ a. a.kind) (input_of variables name)

-- what a member of this name and value meets
abbrev pub Meets : List Variable → List ℕ → Data → Cause → Type 0
Meets variables name d (cause.NoInput shown) = (string_bytes shown ≡ name) × (kind_of variables name ≡ None)
Meets variables name d (cause.NoValue shown kind is) =
    (string_bytes shown ≡ name) × (kind_of variables name ≡ Some kind) × (met_of d ≡ is)
Meets variables name d other = ⊥

-- the first of these members that gives nothing meets this
pub record IsLacking (variables : List Variable) (members : Members) (c : Cause) : Type 0 where
  pub name : List ℕ
  pub value : Data
  pub first : first_without variables members ≡ Some (name, value)
  pub meets : Meets variables name value c

-- the line is a JSON object, and the first of its members that gives nothing meets this
pub record Lacks (variables : List Variable) (line : List ℕ) (c : Cause) : Type 0 where
  pub members : Members
  pub object : IsObjectOf line members
  pub lacking : IsLacking variables members c

-- why a line gives no inputs
abbrev pub IsCause : List Variable → List ℕ → Cause → Type 0
IsCause variables line cause.TooLong = line_limit < length line
IsCause variables line cause.NoObject = (members : Members) → ¬ IsObjectOf line members
IsCause variables line other = Lacks variables line other
