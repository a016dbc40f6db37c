-- The outputs among variables as rows, in the order of their names: the text before a value, and the value's place.
use Rattle.std.specs.Prelude.{◌≡◌, ℕ, Bool, true, false, if◌then◌else◌, Option, Some, None, List, [], ◌∷◌, ◌++◌, length, slice_get, String, string_bytes, codes}
use Rattle.std.specs.Prelude.{decimal}
use Rattle.std.specs.declared.alloc.Global.{Global}
use Rattle.json.specs.Print.{quoted}
use Rattle.serde_json.specs.Data.{Data, null, Members, no_members, member, put}
use Rattle.serde_json.specs.Written.{comma_if, compact_text, members_text}
use Rattle.sc_values.specs.declared.value.Value.{Value}
use Rattle.sc_graph.specs.declared.program.Variable.{Variable}
use Rattle.trace_lines.specs.declared.outputs.Row.{Row}
use Rattle.trace_lines.specs.Output.{data_of, is_output, outputs_of}

-- the value at a place as JSON data; null where there is none
abbrev pub data_at : List Value → ℕ → Data
data_at values place = some_data (slice_get values place)
  where
    some_data : Option Value → Data
    some_data None = null
    some_data (Some v) = data_of v

-- the members of names whose values stand at these places
abbrev pub placed : List (String Global × ℕ) → List Value → Members
placed [] values = no_members
placed (e ∷ es) values = member (string_bytes e.0) (data_at values e.1) (placed es values)

-- a variable whose value stands at this place more, where it is an output
abbrev pub with_place : Variable → ℕ → List Value → Members → Members
with_place a place values shown = if is_output a.role then put a.name (data_at values place) shown else shown

-- the text before the value of a member
abbrev pub key_text : Bool → List ℕ → List ℕ
key_text later name = comma_if later ++ (quoted name ++ 58 ∷ [])

-- what rows show of values
abbrev pub rows_text : List Row → List Value → List ℕ
rows_text [] values = []
rows_text (row ∷ rows) values = string_bytes row.before
    ++ (compact_text (data_at values row.place) ++ rows_text rows values)

-- rows show the outputs among variables
abbrev pub ShowsOutputs : List Variable → List Row → Type 0
ShowsOutputs variables rows =
    (values : List Value) → length values ≡ length variables
    → rows_text rows values ++ 125 ∷ [] ≡ members_text false (outputs_of variables values)

-- the output line of a tick of this number and so many steps, with the text of its rows
abbrev pub line_by : ℕ → ℕ → List ℕ → List ℕ
line_by tick steps rows =
    codes "{\"out\":{" ++ (rows ++ (codes "},\"steps\":"
    ++ (decimal steps ++ (codes ",\"tick\":" ++ (decimal tick ++ codes "}\n")))))

-- whether there is a row
abbrev pub has_rows : List Row → Bool
has_rows [] = false
has_rows (row ∷ rows) = true
