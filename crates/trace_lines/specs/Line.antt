-- What a line of input says: a JSON object, whose members give values to inputs.
use Rattle.std.specs.Prelude.{◌≡◌, ◌^◌, ℕ, ℤ, pos, negsuc, Bool, true, false, ◌&&◌, nat_eq, nat_lt, if◌then◌else◌, Option, Some, None, option_map}
use Rattle.std.specs.Prelude.{option_and_then, List, [], ◌∷◌, find, IsUtf8}
use Rattle.std.specs.Cmp.Lexicographic.{pointwise}
use Rattle.serde_json.specs.Data.{Data, object, Members, no_members, member}
use Rattle.serde_json.specs.Find.{as_bool, as_number, as_i64}
use Rattle.serde_json.specs.Read.{read}
use Rattle.sc_values.specs.declared.value.Kind.{Kind}
use Rattle.sc_values.specs.declared.value.Kind.TheVariants as kind
use Rattle.sc_values.specs.declared.value.Value.{Value}
use Rattle.sc_values.specs.declared.value.Value.TheVariants as value
use Rattle.sc_graph.specs.declared.program.Role.{Role}
use Rattle.sc_graph.specs.declared.program.Role.TheVariants as role
use Rattle.sc_graph.specs.declared.program.Variable.{Variable}

-- whether an integer has 32 bits
abbrev pub is_int32 : ℤ → Bool
is_int32 (pos n) = nat_lt n (2 ^ 31)
is_int32 (negsuc n) = nat_lt n (2 ^ 31)

abbrev pub int32_of : ℤ → Option Value
int32_of z = if is_int32 z then Some (value.Int z) else None

-- the value of a kind that JSON data spell
abbrev pub value_of : Kind → Data → Option Value
value_of kind.Bool d = option_map value.Bool (as_bool d)
value_of kind.Int d = option_and_then int32_of (option_and_then as_i64 (as_number d))

abbrev pub is_input : Role → Bool
is_input role.Input = true
is_input other = false

-- the input of this name
abbrev pub input_of : List Variable → List ℕ → Option Variable
input_of variables name = find (λ a. is_input a.role && pointwise nat_eq a.name name) variables

-- a line is a JSON object with these members
abbrev pub IsObjectOf : List ℕ → Members → Type 0
IsObjectOf line members = IsUtf8 line × (read line ≡ Some (object members))

-- what a member gives: a value to the input that it names
abbrev pub given : List Variable → List ℕ → Data → Option (List ℕ × Value)
given variables name d = option_and_then (λ a. option_map (λ v. (a.name, v)) (value_of a.kind d))
    (input_of variables name)

-- what all members give; None where one gives nothing
abbrev pub inputs_of : List Variable → Members → Option (List (List ℕ × Value))
inputs_of variables no_members = Some []
inputs_of variables (member name d rest) = option_and_then (λ g. option_map (λ gs. g ∷ gs) (inputs_of variables rest))
    (given variables name d)
