-- What a line of output shows.
use Rattle.std.specs.Prelude.{ℕ, Bool, true, false, if◌then◌else◌, codes, List, [], ◌∷◌, ◌++◌}
use Rattle.serde_json.specs.Data.{Data, boolean, number, unsigned, object, Members, no_members, member, put}
use Rattle.serde_json.specs.Find.{of_integer}
use Rattle.serde_json.specs.Written.{compact_text}
use Rattle.sc_values.specs.declared.value.Value.{Value}
use Rattle.sc_values.specs.declared.value.Value.TheVariants as value
use Rattle.sc_graph.specs.declared.program.Role.{Role}
use Rattle.sc_graph.specs.declared.program.Role.TheVariants as role
use Rattle.sc_graph.specs.declared.program.Variable.{Variable}
use Rattle.trace_lines.specs.Lines.{line_feed}

-- a value as JSON data
abbrev pub data_of : Value → Data
data_of (value.Bool b) = boolean b
data_of (value.Int z) = number (of_integer z)

abbrev pub is_output : Role → Bool
is_output role.Output = true
is_output other = false

-- one variable with its value more, where it is an output
abbrev pub with_output : Variable → Value → Members → Members
with_output a v shown = if is_output a.role then put a.name (data_of v) shown else shown

-- the outputs among variables, with their values, beside what is shown already
abbrev pub with_outputs : List Variable → List Value → Members → Members
with_outputs [] values shown = shown
with_outputs (a ∷ variables) [] shown = shown
with_outputs (a ∷ variables) (v ∷ values) shown = with_outputs variables values (with_output a v shown)

-- all outputs, in the order of their names
abbrev pub outputs_of : List Variable → List Value → Members
outputs_of variables values = with_outputs variables values no_members

-- a tick of this number and so many steps, with what it shows
abbrev pub tick_data : ℕ → ℕ → Members → Data
tick_data tick steps shown =
    object (member (codes "out") (object shown) (member (codes "steps") (number (unsigned steps))
    (member (codes "tick") (number (unsigned tick)) no_members)))

abbrev pub tick_line : ℕ → ℕ → Members → List ℕ
tick_line tick steps shown = compact_text (tick_data tick steps shown) ++ line_feed ∷ []
