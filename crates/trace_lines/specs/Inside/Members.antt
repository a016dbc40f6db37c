-- Members of an object, read one after another.
use Rattle.std.specs.Prelude.{◌≡◌, ℕ, ◌≤◌, List, ◌∷◌, length, Option, Some, None, option_map}
use Rattle.json.specs.Token.{Token}
use Rattle.json.specs.Json as json
use Rattle.serde_json.specs.Data.{Data, boolean, number, Members, no_members}
use Rattle.serde_json.specs.Read.{number_of, of_members, converted}
use Rattle.sc_values.specs.declared.value.Kind.{Kind}
use Rattle.sc_values.specs.declared.value.Value.{Value}
use Rattle.sc_graph.specs.declared.program.Variable.{Variable}
use Rattle.trace_lines.specs.Line.{value_of, given, inputs_of}
use Rattle.trace_lines.specs.Inside.Ordered.{AreInOrder}

-- the data that a token is alone, where it is true, false or a number
abbrev pub data_of : Token → Option Data
data_of Token.begin_object = None
data_of Token.end_object = None
data_of Token.begin_array = None
data_of Token.end_array = None
data_of (Token.key s) = None
data_of (Token.string s) = None
data_of (Token.number s) = option_map number (number_of s)
data_of (Token.boolean b) = Some (boolean b)
data_of Token.null = None
data_of Token.bad = None

-- this token alone is a value of this kind
abbrev pub Spells : Kind → Token → Value → Type 0
Spells kind t v = (d : Data) × (data_of t ≡ Some d) × (value_of kind d ≡ Some v)

-- the first token is a value, with which a member of this name gives g, and the others are left
abbrev pub GivesFirst : List Variable → List ℕ → List Token → List Token → List ℕ × Value → Type 0
GivesFirst variables name ts left g =
    (t : Token) × (d : Data) × (ts ≡ t ∷ left) × (data_of t ≡ Some d) × (given variables name d ≡ Some g)

-- the tokens begin with a member that gives g, and the others are left
abbrev pub BeginsGiving : List Variable → List Token → List Token → List ℕ × Value → Type 0
BeginsGiving variables ts left g =
    (name : List ℕ) × (from : List Token) × (json.read_key ts ≡ Some (Some name, from)) × GivesFirst variables name from left g

-- the members of an object from these tokens on, beside those that were read
abbrev pub members_from : ℕ → List Token → Members → Option (Members × List Token)
members_from turns ts members = converted (λ ms. of_members ms members) (json.members (json.value 126) turns ts)

-- the members that were read give these, and with those that are left the object is the whole one
pub record Stands (variables : List Variable) (whole left : List Token) (found : List (List ℕ × Value)) : Type 0 where
  pub members : Members
  pub turns : ℕ
  pub enough : length left ≤ turns
  pub gives : inputs_of variables members ≡ Some found
  pub in_order : AreInOrder found
  pub reads : members_from (length whole) whole no_members ≡ members_from turns left members

-- the tokens begin with the members of an object, which give these, and its end, and the others are left
abbrev pub GivesAll : List Variable → List Token → List Token → List (List ℕ × Value) → Type 0
GivesAll variables ts left found =
    (members : Members) × (members_from (length ts) ts no_members ≡ Some (members, left)) × (inputs_of variables members ≡ Some found)
